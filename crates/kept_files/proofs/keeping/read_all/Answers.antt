use Rattle.kept_files.proofs.Reading.{known_front}
use Rattle.kept_files.proofs.keeping.read_all.Goals as goal

pub returns : goal.returns
returns g c =
    known_front g.R.Read.remaining c.args.reader c.take.result 1073741824 c.new-text.result.items c.read_to_end.new.buf.items c.take.ensures.limit c.take.ensures.inner c.new-text.ensures.items c.in_ok-read_to_end.ensures.bytes
