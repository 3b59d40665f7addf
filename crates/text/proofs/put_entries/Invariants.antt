-- `text::put_entries` meets its contract. The loop's invariant: the lines of the first entries are put.
use Rattle.std.proofs.Common.{take}
use Rattle.digits.specs.Digits.{Puts}
use Rattle.text.specs.Parts.{entry_lines}
use Rattle.text.proofs.put_entries.Given as goal

abbrev pub invariant-loop-entry : goal.invariant-loop-entry
invariant-loop-entry g l = Puts l.initial.text l.at (entry_lines l.kind g.E.Entry.bytes_of (take l.entry-index l.entries)) l.next l.text
