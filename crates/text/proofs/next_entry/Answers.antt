-- `text::next_entry` meets its contract: no entry of the kind has room, its line does not stand there, or it is stored.
use Rattle.std.proofs.Common.{rules}
use Rattle.text.proofs.next_entry.Goals as goal

pub returns : goal.returns
returns g c = record {
  few = search rules;
  stands = c.in_ok-fields_at.ensures.0;
  entry = c.of.result;
  same = rw c.of.ensures c.in_ok-fields_at.ensures.1;
  stored = search rules;
  counted = search rules;
  place = search rules;
}
