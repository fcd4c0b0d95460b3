use Rattle.status_reading.proofs.ReadAgain.{read_again}
use Rattle.status_reading.proofs.page_text.PageText.page.Goals as goal

pub returns : goal.returns
returns c =
    read_again c.args.self.now.bytes.items c.args.self.now.read c.read_lines.result (rw c.as_slice.ensures.value at c.read_lines.ensures)
