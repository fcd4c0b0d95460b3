-- What is reported of gateways that were asked: `line`, and the exit status of a plugin (Nagios Core 4 manual, Plugin
-- API). Own rules: the texts, and which state is worse.
use Rattle.std.specs.Prelude.{ℕ, ◌==◌, ◌||◌, if◌then◌else◌, List, [], ◌∷◌, ◌++◌, length, map, count_by, codes}
use Rattle.std.specs.List.{flat_map}
use Rattle.std.specs.Fmt.{decimal}
use Rattle.gate_model.specs.State.{is_problem}
use Rattle.gate_model.specs.Table.{greatest}
use Rattle.status_merge.specs.declared.gateway.MergedObject.{MergedObject}
use Rattle.status_merge.specs.Ranks.{is_unhandled}
use Rattle.operator_checks.specs.declared.findings.Port.{Port}
use Rattle.operator_checks.specs.declared.findings.Port.TheVariants.{Agents, Operators}
use Rattle.operator_checks.specs.declared.findings.Figures.{Figures}
use Rattle.operator_checks.specs.declared.findings.Finding.{Finding}
use Rattle.operator_checks.specs.declared.findings.Finding.TheVariants as finding

-- ---- a page

-- how many objects there are, and of them problems, unhandled ones and stale objects
abbrev pub figures_of : List MergedObject → Figures
figures_of objects = record {
  objects = length objects;
  problems = count_by (λ object. is_problem object.row.state) objects;
  unhandled = count_by is_unhandled objects;
  stale = count_by (λ object. object.row.stale) objects;
}

-- `7 objects, 2 problems, 1 unhandled, 0 stale`
abbrev pub figures_text : Figures → List ℕ
figures_text figures =
    (decimal figures.objects ++ codes " objects, ") ++ (decimal figures.problems ++ codes " problems, ")
    ++ (decimal figures.unhandled ++ codes " unhandled, ") ++ (decimal figures.stale ++ codes " stale")

-- ---- findings

-- how a port is called, and what it doesn't do
abbrev pub port_name : Port → List ℕ
port_name Agents = codes "the agents' port "
port_name Operators = codes "the operators' port "

abbrev pub silence : Port → List ℕ
silence Agents = codes " greets nobody"
silence Operators = codes " answers nobody"

-- `NAME: TEXT`
abbrev pub named : List ℕ → List ℕ → List ℕ
named name text = name ++ codes ": " ++ text

-- what is found
abbrev pub finding_text : Finding → List ℕ
finding_text (finding.Serves name figures) = named name.now (figures_text figures)
finding_text (finding.Closes name figures) = named name.now (codes "shutting down; " ++ figures_text figures)
finding_text (finding.StandsStill name seconds figures) =
    named name.now
    (codes "its page has stood still for " ++ decimal seconds ++ codes " seconds, as with a full log; "
    ++ figures_text figures)
finding_text (finding.NoPage name address) = named name.now (codes "no page came from " ++ address.now)
finding_text (finding.SlowPage name address) =
    named name.now (codes "the pages port " ++ address.now ++ codes " is slow")
finding_text (finding.OtherPage name address) = named name.now (codes "no status page came from " ++ address.now)
finding_text (finding.Silent port address) = port_name port ++ address.now ++ silence port
finding_text (finding.Slow port address) = port_name port ++ address.now ++ codes " is slow"
finding_text (finding.BadAddress address) = address.now ++ codes " is no IP address with a port"
finding_text (finding.Unkept file) = codes "the page can't be kept in " ++ file.now

-- how bad it is: 0 OK, 1 WARNING, 2 UNKNOWN, 3 CRITICAL
abbrev pub weight : Finding → ℕ
weight (finding.Serves name figures) = 0
weight (finding.Closes name figures) = 1
weight (finding.StandsStill name seconds figures) = 3
weight (finding.NoPage name address) = 3
weight (finding.SlowPage name address) = 1
weight (finding.OtherPage name address) = 2
weight (finding.Silent port address) = 3
weight (finding.Slow port address) = 1
weight (finding.BadAddress address) = 2
weight (finding.Unkept file) = 1

-- the worst of all
abbrev pub worst : List Finding → ℕ
worst findings = greatest (map weight findings)

-- ---- figures that programs draw (Nagios Plugin Development Guidelines, performance data)

-- a byte of a name there
abbrev pub label_byte : ℕ → ℕ
label_byte byte = if byte == 32 || byte == 61 || byte == 39 then 95 else byte

-- ` 'NAME WHAT'=NUMBER`
unfoldable pub figure : List ℕ → List ℕ → ℕ → List ℕ
figure name what number = codes " '" ++ map label_byte name ++ what ++ decimal number

abbrev pub drawn_problems : List ℕ → Figures → List ℕ
drawn_problems name figures =
    figure name (codes " problems'=") figures.problems ++ figure name (codes " unhandled'=") figures.unhandled

abbrev pub drawn : List ℕ → Figures → List ℕ
drawn name figures = drawn_problems name figures ++ figure name (codes " stale'=") figures.stale

-- those of a finding; of a port alone there are none
abbrev pub figures_on : Finding → List ℕ
figures_on (finding.Serves name figures) = drawn name.now figures
figures_on (finding.Closes name figures) = drawn name.now figures
figures_on (finding.StandsStill name seconds figures) = drawn name.now figures
figures_on other = []

-- ---- the line

-- the name of a state
abbrev pub state_word : ℕ → List ℕ
state_word weight =
    if weight == 0 then codes "OK"
    else if weight == 1 then codes "WARNING"
    else if weight == 2 then codes "UNKNOWN"
    else codes "CRITICAL"

-- its exit status
abbrev pub state_status : ℕ → ℕ
state_status weight = if weight == 2 then 3 else if weight == 3 then 2 else weight

-- the findings, with semicolons between them
abbrev pub texts_of : List Finding → List ℕ
texts_of [] = []
texts_of (first ∷ rest) = finding_text first ++ flat_map (λ other. codes "; " ++ finding_text other) rest

-- all figures after a bar, and nothing where there are none
abbrev pub after_bar : List ℕ → List ℕ
after_bar [] = []
after_bar (first ∷ rest) = codes " |" ++ (first ∷ rest)

-- the whole line, without its end
abbrev pub line : List Finding → List ℕ
line findings =
    codes "NSCAGATE " ++ state_word (worst findings) ++ codes " - " ++ texts_of findings
    ++ after_bar (flat_map figures_on findings)
