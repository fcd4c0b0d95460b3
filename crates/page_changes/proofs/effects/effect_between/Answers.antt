use Rattle.std.proofs.Common.{ap, sym, ◌∙◌}
use Rattle.page_changes.specs.Effects.{shown_if}
use Rattle.page_changes.proofs.effects.effect_between.Goals as goal

pub returns-in-ScheduleServices : goal.returns-in-ScheduleServices
returns-in-ScheduleServices c =
    let each =
    rw (
      c.last_entry-last.ensures,
      c.as_slice.ensures.value,
      c.as_slice-rows.ensures.value,
      c.as_slice-entries.ensures.value,
      c.in_ok-names-in-ScheduleServices.ensures,
      c.in_ok-words.ensures,
    ) at c.has_entries.ensures in
    rw (sym c.act.ensures ∙ c.in-ScheduleServices.is) (c.shown_if.ensures ∙ ap shown_if each)
