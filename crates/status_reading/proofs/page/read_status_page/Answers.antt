use Rattle.status_reading.proofs.SamePages.{reads_page}
use Rattle.status_reading.proofs.BoardLaws.{reads_board}
use Rattle.status_reading.proofs.GatewayLaws.{reads_gateway}
use Rattle.status_reading.proofs.page.read_status_page.Goals as goal

pub returns-clause-read : goal.returns-clause-read
returns-clause-read c = reads_page c.args.text.now c.read_rows.result c.read_rows.ensures

pub returns-clause-board : goal.returns-clause-board
returns-clause-board c = reads_board c.args.text.now c.read_rows.result c.read_rows.ensures

pub returns-clause-gateway : goal.returns-clause-gateway
returns-clause-gateway c = reads_gateway c.args.text.now c.read_rows.result c.read_rows.ensures
