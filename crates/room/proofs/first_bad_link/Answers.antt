-- `room::first_bad_link` meets its contract: each link is tested by the closure, where there are not too many.
use native.Mathlib.Omega.{arith}
use borrow.Author.Rules.{rules}
use Rattle.paper.specs.Room.{GoodLink, link}
use Rattle.room.proofs.Checks.{opposite, least_bad, first_bad}
use Rattle.room.proofs.first_bad_link.Goals as goal

pub returns : goal.returns
returns c =
    first_bad _ _ 16 _ (omega arith)
    (least_bad (λ q. GoodLink c.args.room (link c.args.room q)) _ _ _ c.from.ensures c.find.ensures.ran (λ q b f k. search (rules, opposite)))
