-- A page with the form is not loaded again.
use Rattle.std.proofs.Common.{◌≡◌, ℕ, Bool, true, [], ap, if◌then◌else◌}
use Rattle.status_view.specs.Shapes.{PageShapeView}
use Rattle.status_view.specs.HeadLayout.{refresh_nodes}
use Rattle.status_view.specs.Page.{seconds_of}

pub still : (shape : PageShapeView) → shape.form ≡ true → refresh_nodes (seconds_of shape) ≡ []
unfolding refresh_nodes
still shape is = ap (λ (form : Bool). refresh_nodes (if form then 0 else shape.refresh)) is
