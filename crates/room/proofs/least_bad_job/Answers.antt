-- `room::least_bad_job` meets its contract: each job is tested by the closure.
use borrow.Author.Rules.{rules}
use Rattle.paper.specs.Room.{GoodJob, job}
use Rattle.room.proofs.Checks.{opposite, least_bad}
use Rattle.room.proofs.least_bad_job.Goals as goal

pub returns : goal.returns
returns c = least_bad (λ i. GoodJob (job c.args.room i)) _ _ _ c.from.ensures c.find.ensures.ran (λ i b f k. search (rules, opposite))
