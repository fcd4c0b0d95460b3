-- The times of downtime as words write them: moments in seconds since 1970, and spans as `90m`. Own rules.
use Rattle.std.specs.Prelude.{ℕ, ◌+◌, ◌-◌, ◌*◌, ◌^◌, ◌==◌, nat_lt, List, length, take, get_or, Option, Some, None, Result, Ok, Err, ok_or, option_map, option_and_then, if◌then◌else◌}
use Rattle.gate_model.specs.declared.record.Moment.{Moment}
use Rattle.gate_grammar.specs.Numbers.{number_of}
use Rattle.operator_commands.specs.declared.request.Window.{Window}
use Rattle.operator_commands.specs.declared.bodies.Times.{Times}
use Rattle.operator_commands.specs.declared.bodies.RequestFault.{RequestFault}
use Rattle.operator_commands.specs.declared.bodies.RequestFault.TheVariants.{BadTime, BadSpan, BadId, NoEnd}

-- the number, where 32 bits hold it
abbrev pub fitting : ℕ → Option ℕ
fitting number = if nat_lt number (2 ^ 32) then Some number else None

-- the seconds of so many units: s, m, h or d
abbrev pub seconds_of : ℕ → ℕ → Option ℕ
seconds_of unit count =
    if unit == 115 then fitting count
    else if unit == 109 then fitting (count * 60)
    else if unit == 104 then fitting (count * 3600)
    else if unit == 100 then fitting (count * 86400)
    else None

-- the seconds of a span: a number and its unit
abbrev pub span_of : List ℕ → Option ℕ
span_of text =
    if length text == 0 then None
    else option_and_then (seconds_of (get_or text (length text - 1) 0)) (number_of (take (length text - 1) text))

-- the moment that is written, or else this one
abbrev pub moment_or : Moment → Option (List ℕ) → Result Moment RequestFault
moment_or default None = Ok default
moment_or default (Some text) = ok_or (option_map (λ n. record { 0 = n }) (number_of text)) BadTime

-- the moment so many seconds after this one
abbrev pub moment_after : Moment → ℕ → Result Moment RequestFault
moment_after starts seconds = ok_or (option_map (λ n. record { 0 = n }) (fitting (starts.0 + seconds))) BadTime

-- the moment a span after this one
abbrev pub after_span : Moment → List ℕ → Result Moment RequestFault
after_span starts span = elim (span_of span) [ Some seconds ↦ moment_after starts seconds | None ↦ Err BadSpan ]

-- the end of downtime that starts then: one of `--for` and `--until` is there
abbrev pub end_of : Moment → Option (List ℕ) → Option (List ℕ) → Result Moment RequestFault
end_of starts (Some span) None = after_span starts span
end_of starts None (Some until) = moment_or starts (Some until)
end_of starts (Some span) (Some until) = Err NoEnd
end_of starts None None = Err NoEnd

-- how long flexible downtime lasts
abbrev pub flexible_of : Option (List ℕ) → Result (Option ℕ) RequestFault
flexible_of None = Ok None
flexible_of (Some span) = ok_or (option_map (λ seconds. Some seconds) (span_of span)) BadSpan

-- the number of the entry that triggers it, and 0 for none
abbrev pub trigger_of : Option (List ℕ) → Result ℕ RequestFault
trigger_of None = Ok 0
trigger_of (Some id) = ok_or (number_of id) BadId

-- the times of a window that is asked for now
abbrev pub times_of : Moment → Window → Result Times RequestFault
times_of now window =
    elim (moment_or now window.from) [
      | Err fault ↦ Err fault
      | Ok starts ↦ elim (end_of starts window.lasts window.until) [
        | Err fault ↦ Err fault
        | Ok ends ↦ elim (flexible_of window.flexible) [
          | Err fault ↦ Err fault
          | Ok flexible ↦ elim (trigger_of window.trigger) [
            | Err fault ↦ Err fault
            | Ok trigger ↦ Ok (record { starts = starts; ends = ends; flexible = flexible; trigger = trigger })
          ]
        ]
      ]
    ]
