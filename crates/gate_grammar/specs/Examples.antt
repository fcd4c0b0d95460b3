-- Worked lines: what they are read to, their canonical lines, their first faults. Each holds by computing the
-- definitions.
use Rattle.std.specs.Prelude.{◌≡◌, ⊤, ℕ, [], ◌∷◌, ◌++◌, not, Some, None, Ok, pos, codes, refl, replicate}
use Rattle.std.specs.Fmt.{digits}
use Rattle.std.specs.List.{filter}
use Rattle.gate_grammar.specs.Numbers.{number_below}
use Rattle.gate_model.specs.declared.object.Kind.TheVariants.{Host, Service}
use Rattle.gate_model.specs.declared.submission.Body.{Body}
use Rattle.gate_model.specs.declared.submission.Body.TheVariants as body
use Rattle.gate_grammar.specs.declared.commands.Command.{Command}
use Rattle.gate_grammar.specs.declared.commands.CommandName.TheVariants as name
use Rattle.gate_grammar.specs.declared.faults.LineFault.TheVariants as fault
use Rattle.gate_grammar.specs.inner.Answers.{answer_of}
use Rattle.gate_grammar.specs.Canonical.{canonical_line}
use Rattle.gate_grammar.specs.Commands.{command_names, text_of, kinds_of, takes_memory, command_body}
use Rattle.gate_grammar.specs.Parsing.{parsed_line, fields_at, time_at, name_at, values_at, value_at, first_fault}

-- what an equation on literal lines unfolds
unfoldable pub on_literals : ⊤
unfolding digits number_below text_of kinds_of command_body parsed_line fields_at time_at name_at values_at value_at
on_literals = tt

-- the command with this body, entered at this moment
abbrev pub entered_at : ℕ → Body → Command
entered_at moment body = record { entered = record { 0 = moment }; body = body }

abbrev pub remark : Command
remark = entered_at 1000 (body.AddComment (codes "web1") (Some (codes "HTTP")) 1 (codes "ann") (codes "a;b;c"))

-- all commands but these take memory
taking_no_memory :
    filter (λ name. not (takes_memory name)) command_names
    ≡ name.DelComment Host ∷ name.DelDowntime Host ∷ name.DelComment Service ∷ name.DelDowntime Service
    ∷ name.Shutdown ∷ []
unfolding on_literals
taking_no_memory = refl

-- ---- read and written

last_argument_keeps_its_semicolons :
    answer_of (codes "[1000] ADD_SVC_COMMENT;web1;HTTP;1;ann;a;b;c")
    ≡ Ok remark
unfolding on_literals
last_argument_keeps_its_semicolons = refl

blanks_at_the_end_are_dropped :
    answer_of (codes "[1000] ADD_SVC_COMMENT;web1;HTTP;1;ann;a;b;c  \r")
    ≡ Ok remark
unfolding on_literals
blanks_at_the_end_are_dropped = refl

remark_is_written : canonical_line remark ≡ codes "[1000] ADD_SVC_COMMENT;web1;HTTP;1;ann;a;b;c"
unfolding on_literals
remark_is_written = refl

leading_zeros_are_read :
    answer_of (codes "[0001000] DEL_SVC_COMMENT;0007")
    ≡ Ok (entered_at 1000 (body.DelComment Service 7))
unfolding on_literals
leading_zeros_are_read = refl

leading_zeros_are_not_written :
    canonical_line (entered_at 1000 (body.DelComment Service 7))
    ≡ codes "[1000] DEL_SVC_COMMENT;7"
unfolding on_literals
leading_zeros_are_not_written = refl

minus_zero_is_zero :
    answer_of (codes "[1000] PROCESS_HOST_CHECK_RESULT;web1;-0;")
    ≡ Ok (entered_at 1000 (body.Result (codes "web1") None (pos 0) []))
unfolding on_literals
minus_zero_is_zero = refl

empty_output_ends_with_its_semicolon :
    canonical_line (entered_at 1000 (body.Result (codes "web1") None (pos 0) []))
    ≡ codes "[1000] PROCESS_HOST_CHECK_RESULT;web1;0;"
unfolding on_literals
empty_output_ends_with_its_semicolon = refl

line_of_8192_bytes : first_fault (codes "[1000] DEL_SVC_COMMENT;7" ++ replicate 8168 32) ≡ None
unfolding on_literals
line_of_8192_bytes = refl

-- ---- first faults

line_of_8193_bytes : first_fault (replicate 8193 97) ≡ Some fault.TooLong
unfolding on_literals
line_of_8193_bytes = refl

line_feed : first_fault (codes "[1000] FOO\n") ≡ Some fault.BadByte
unfolding on_literals
line_feed = refl

no_bytes : first_fault [] ≡ Some fault.NoTime
unfolding on_literals
no_bytes = refl

blanks_are_dropped_before_the_time_is_read : first_fault (codes "[1000] ") ≡ Some fault.NoTime
unfolding on_literals
blanks_are_dropped_before_the_time_is_read = refl

time_of_eleven_digits : first_fault (codes "[99999999999] SHUTDOWN_PROGRAM") ≡ Some fault.NoTime
unfolding on_literals
time_of_eleven_digits = refl

unknown_command : first_fault (codes "[1000] FOO") ≡ Some fault.UnknownCommand
unfolding on_literals
unknown_command = refl

second_space_is_of_the_name :
    first_fault (codes "[1000]  SHUTDOWN_PROGRAM")
    ≡ Some fault.UnknownCommand
unfolding on_literals
second_space_is_of_the_name = refl

argument_too_many : first_fault (codes "[1000] SHUTDOWN_PROGRAM;1") ≡ Some fault.ExtraArgument
unfolding on_literals
argument_too_many = refl

argument_missing :
    first_fault (codes "[1000] ADD_SVC_COMMENT;web1;HTTP;1")
    ≡ Some (fault.MissingArgument 4)
unfolding on_literals
argument_missing = refl

bad_argument_is_reported_before_a_missing_one :
    first_fault (codes "[1000] ADD_HOST_COMMENT;web1;x")
    ≡ Some (fault.BadNumber 2)
unfolding on_literals
bad_argument_is_reported_before_a_missing_one = refl

empty_name : first_fault (codes "[1000] REMOVE_HOST_ACKNOWLEDGEMENT;") ≡ Some (fault.EmptyName 1)
unfolding on_literals
empty_name = refl

number_past_its_range :
    first_fault (codes "[1000] DEL_HOST_COMMENT;4294967296")
    ≡ Some (fault.BadNumber 1)
unfolding on_literals
number_past_its_range = refl

code_past_its_range :
    first_fault (codes "[1000] PROCESS_HOST_CHECK_RESULT;web1;-32769;x")
    ≡ Some (fault.BadNumber 2)
unfolding on_literals
code_past_its_range = refl

last_number_takes_all : first_fault (codes "[1000] DEL_HOST_COMMENT;1;2") ≡ Some (fault.BadNumber 1)
unfolding on_literals
last_number_takes_all = refl
