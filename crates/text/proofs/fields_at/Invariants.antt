-- `text::fields_at` meets its contract. The loop's invariant: the first i bytes after the kind are read.
use Rattle.std.proofs.Common.{◌≡◌, ℕ, ◌+◌, ◌*◌, ◌<◌, length, get_or}
use Rattle.paper.specs.Reading.{byte_at}
use Rattle.text.proofs.fields_at.Given as goal

abbrev pub invariant-loop-i : goal.invariant-loop-i
invariant-loop-i g l = record {
  long : length l.fields ≡ g.row.N;
  read : (k : ℕ) → k < l.i → (byte_at l.text (l.at + 2 * (k + 1)) ≡ get_or l.fields k 0) × (byte_at l.text (l.at + 2 * (k + 1)) < 256);
}
