-- `export::stoerwjok_read` meets its contract: the reader's reply, and the bytes of the room that it hands back.
use Rattle.export.proofs.Bytes.{handed_is}
use Rattle.export.proofs.stoerwjok_read.Goals as goal

pub returns : goal.returns
returns c = record {
  reply = c.numbers.result;
  promised = record {
    answer = c.read-read.result;
    promised = (c.read-read.ensures, rw (← handed_is c.read-read.result c.unwrap_or_default.ensures) c.bytes_of.ensures);
    told = c.numbers.ensures;
  };
  tells = c.tell.ensures;
}
