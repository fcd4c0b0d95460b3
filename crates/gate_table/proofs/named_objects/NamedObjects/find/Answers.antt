use Rattle.std.proofs.Common.{List, ap, sym, ◌∙◌}
use Rattle.std.specs.List.{position_from}
use Rattle.std.specs.Map.{keys_of}
use Rattle.std.specs.Option.{option_copied}
use Rattle.std.specs.Str.{bytes_eq}
use Rattle.gate_table.proofs.KeySteps.{place_of-key, place_of-long}
use Rattle.gate_table.proofs.named_objects.NamedObjects.find.Goals as goal

pub returns-in-None : goal.returns-in-None
returns-in-None c lines keys short = sym (place_of-long c.args.host.now (option_copied c.args.service) lines (sym c.in-None.ensures.short) short)

pub returns-in-Some : goal.returns-in-Some
returns-in-Some c lines keys short =
    c.place.ensures
    ∙ ap (λ (key : List _). position_from (bytes_eq key) 0 (keys_of c.args.self.now)) (c.deref.ensures.0 ∙ c.in-Some.ensures.value)
    ∙ place_of-key c.args.host.now (option_copied c.args.service) lines (keys_of c.args.self.now) keys (sym c.in-Some.ensures.short) short
