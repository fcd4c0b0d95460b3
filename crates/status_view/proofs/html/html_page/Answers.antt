use Rattle.status_view.specs.Shapes.{page_shape}
use Rattle.status_view.proofs.FillingSteps.{alone}
use Rattle.status_view.proofs.FormLaws.{still}
use Rattle.status_view.proofs.TileLaws.{tiles_count}
use Rattle.status_view.proofs.html.html_page.Goals as goal

pub returns-clause-page : goal.returns-clause-page
returns-clause-page c = simp (c.in_ok-layout.ensures, c.in_ok-shape.ensures) at c.fill.ensures

pub returns-in_err-shape-clause-shape_alone : goal.returns-in_err-shape-clause-shape_alone
returns-in_err-shape-clause-shape_alone c = λ other same. alone c.args.view.now other same

pub returns-in_err-layout-clause-shape_alone : goal.returns-in_err-layout-clause-shape_alone
returns-in_err-layout-clause-shape_alone c = λ other same. alone c.args.view.now other same

pub returns-clause-shape_alone : goal.returns-clause-shape_alone
returns-clause-shape_alone c = λ other same. alone c.args.view.now other same

pub returns-in_err-shape-clause-tiles : goal.returns-in_err-shape-clause-tiles
returns-in_err-shape-clause-tiles c = λ own. tiles_count c.args.view.now own

pub returns-in_err-layout-clause-tiles : goal.returns-in_err-layout-clause-tiles
returns-in_err-layout-clause-tiles c = λ own. tiles_count c.args.view.now own

pub returns-clause-tiles : goal.returns-clause-tiles
returns-clause-tiles c = λ own. tiles_count c.args.view.now own

pub returns-in_err-shape-clause-typed : goal.returns-in_err-shape-clause-typed
returns-in_err-shape-clause-typed c = still (page_shape c.args.view.now)

pub returns-in_err-layout-clause-typed : goal.returns-in_err-layout-clause-typed
returns-in_err-layout-clause-typed c = still (page_shape c.args.view.now)

pub returns-clause-typed : goal.returns-clause-typed
returns-clause-typed c = still (page_shape c.args.view.now)
