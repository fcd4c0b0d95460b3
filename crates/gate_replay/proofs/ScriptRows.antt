-- Lines of a script, and what is parsed from them.
use Rattle.std.proofs.Common.{◌≡◌, [], Some, None, refl}
use Rattle.std.specs.Prelude.{codes, pos, negsuc}
use Rattle.gate_grammar.specs.Numbers.{number_below}
use Rattle.gate_replay.specs.declared.script_line.PacketForm.TheVariants.{Short, Long}
use Rattle.gate_replay.specs.ScriptLine.{Object, Open, Clock, Packet, Line, Page, cut, number_field, code_field, parsed_object, parsed_open, parsed_clock, parsed_packet, parsed_form, parsed_with_word, parsed_script_line}

a_host : parsed_script_line (codes "object;300;web1") ≡ Some (Object 300 (codes "web1") None)
unfolding parsed_script_line parsed_with_word parsed_form parsed_object number_field cut number_below
a_host = refl

a_service : parsed_script_line (codes "object;300;web1;HTTP") ≡ Some (Object 300 (codes "web1") (Some (codes "HTTP")))
unfolding parsed_script_line parsed_with_word parsed_form parsed_object number_field cut number_below
a_service = refl

an_open_line : parsed_script_line (codes "open;1000;30;16;100") ≡ Some (Open 1000 30 16 100)
unfolding parsed_script_line parsed_with_word parsed_form parsed_open number_field cut number_below
an_open_line = refl

an_age_of_901_seconds : parsed_script_line (codes "open;1000;901;4;1") ≡ None
unfolding parsed_script_line parsed_with_word parsed_form parsed_open number_field cut number_below
an_age_of_901_seconds = refl

a_clock : parsed_script_line (codes "clock;1040") ≡ Some (Clock 1040)
unfolding parsed_script_line parsed_with_word parsed_form parsed_clock cut number_below
a_clock = refl

an_output_with_semicolons : parsed_script_line (codes "packet;1000;-2;web1;HTTP;timeout; 10s;") ≡ Some (Packet Long 1000 (negsuc 1) (codes "web1") (codes "HTTP") (codes "timeout; 10s;"))
unfolding parsed_script_line parsed_with_word parsed_form parsed_packet number_field code_field cut number_below
an_output_with_semicolons = refl

a_short_packet : parsed_script_line (codes "short;1000;0;web1;;up") ≡ Some (Packet Short 1000 (pos 0) (codes "web1") [] (codes "up"))
unfolding parsed_script_line parsed_with_word parsed_form parsed_packet number_field code_field cut number_below
a_short_packet = refl

no_output : parsed_script_line (codes "packet;1000;0;web1;HTTP") ≡ None
unfolding parsed_script_line parsed_with_word parsed_form parsed_packet number_field code_field cut number_below
no_output = refl

an_operators_line : parsed_script_line (codes "line;[1000] FOO;1") ≡ Some (Line (codes "[1000] FOO;1"))
unfolding parsed_script_line parsed_with_word parsed_form cut
an_operators_line = refl

an_empty_line_of_an_operator : parsed_script_line (codes "line;") ≡ Some (Line [])
unfolding parsed_script_line parsed_with_word parsed_form cut
an_empty_line_of_an_operator = refl

a_page : parsed_script_line (codes "page") ≡ Some Page
unfolding parsed_script_line
a_page = refl

no_page : parsed_script_line (codes "page;") ≡ None
unfolding parsed_script_line parsed_with_word parsed_form cut
no_page = refl

another_word : parsed_script_line (codes "line") ≡ None
unfolding parsed_script_line parsed_with_word parsed_form cut
another_word = refl
