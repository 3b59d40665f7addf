-- `export::stoerwjok_write` meets its contract: the writer's reply to the room in the bytes.
use Rattle.export.proofs.stoerwjok_write.Goals as goal

pub returns : goal.returns
returns c = record {
  reply = c.numbers.result;
  promised = record { answer = c.write.result; promised = rw (← c.room_of.ensures) c.write.ensures; told = c.numbers.ensures };
  tells = c.tell.ensures;
}
