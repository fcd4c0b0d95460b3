-- The names of the hosts that are out, as a set: what one more object adds.
use Rattle.std.proofs.Common.{◌≡◌, ℕ, ◌<◌, ◌&&◌, ◌||◌, Bool, true, false, cond, List, ◌∷◌, suc, length, drop, drop-cons, get_or, refl, sym, ◌∙◌, ap}
use Rattle.std.specs.Str.{bytes_eq}
use Rattle.status_merge.specs.declared.gateway.MergedObject.{MergedObject}
use Rattle.status_merge.specs.Objects.{is_host_out}
use Rattle.status_merge.specs.inner.Hosts.{is_out}

put : (here has rest : Bool) → (cond here true has || rest) ≡ (has || (here || rest))
put true true rest = refl
put true false rest = refl
put false true rest = refl
put false false rest = refl

pub out_more : (objects : List MergedObject) (index next : ℕ) (other : MergedObject) (name : List ℕ) (is has after : Bool)
    → index < length objects
    → suc index ≡ next
    → is ≡ is_host_out (get_or objects index other)
    → after ≡ cond (is && bytes_eq (get_or objects index other).row.host.now name) true has
    → (has || is_out (drop index objects) name) ≡ is_out objects name
    → (after || is_out (drop next objects) name) ≡ is_out objects name
out_more objects index next other name is has after inside step out here so_far =
    let host = get_or objects index other in
    let rest = is_out (drop next objects) name in
    ap (λ found. found || rest) here
    ∙ ap (λ test. cond (test && bytes_eq host.row.host.now name) true has || rest) out
    ∙ put (is_host_out host && bytes_eq host.row.host.now name) has rest
    ∙ ap (λ from. has || is_out (host ∷ drop from objects) name) (sym step)
    ∙ ap (λ list. has || is_out list name) (sym (drop-cons objects index other inside))
    ∙ so_far
