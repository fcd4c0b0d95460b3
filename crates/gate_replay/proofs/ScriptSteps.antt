-- The lines of a script, one after the other.
use Rattle.std.proofs.Common.{◌≡◌, ℕ, ◌+◌, ◌<◌, ◌≤◌, ◌++◌, List, [], ◌∷◌, length, take, get_or, Option, Some, None, refl, sym, ap, ◌∙◌, subst, inl, arith, below_more, map}
use Rattle.std.specs.Borrow.{Bor}
use Rattle.std.specs.List.{filter_map, cons_option}
use Rattle.std.proofs.lemmas.List.{take_all, take_more, append-nil, get_or-map, length-map}
use Rattle.std.proofs.lemmas.List.Elements.{filter_map-append}
use Rattle.gate_model.specs.declared.object.ObjectLine.{ObjectLine}
use Rattle.gate_table.specs.Faults.{IsFaultless}
use Rattle.gate_replay.specs.declared.script.Step.{Step}
use Rattle.gate_replay.specs.declared.setup.Setup.{Setup}
use Rattle.gate_replay.specs.declared.script.Script.{Script}
use Rattle.gate_replay.specs.declared.script.ScriptFault.{ScriptFault}
use Rattle.gate_replay.specs.declared.script.ScriptFault.TheVariants as fault
use Rattle.gate_replay.specs.ScriptLine.{ParsedScriptLine, Object, Open, Clock, Packet, Line, Page, parsed_script_line}
use Rattle.gate_replay.specs.Script.{open_of, object_of, step_of, opens_in, objects_in, steps_in, IsHead, IsStep, IsGoodAt, AreGood, open_line, IsScript, IsFirstFaultyLine, IsFaultOf}
use Rattle.gate_replay.specs.inner.Parsing.{parsed_from, IsHeadSoFar, IsOpenSoFar, IsLineFault}

-- what is parsed from the line at an index
pub value_at : (lines : List (Bor (List ℕ))) (index : ℕ) (line : Bor (List ℕ)) (value : Option ParsedScriptLine) → index < length lines → parsed_script_line (get_or lines index line).now ≡ value → get_or (parsed_from lines) index None ≡ value
value_at lines index line value inside is =
    get_or-map parsed_script_line (map (λ l. l.now) lines) index line.now None (simp length-map inside)
    ∙ ap parsed_script_line (get_or-map (λ (l : Bor (List ℕ)). l.now) lines index line line.now inside)
    ∙ is

pub parsed_length : (lines : List (Bor (List ℕ))) → length (parsed_from lines) ≡ length lines
parsed_length lines = simp length-map

-- one more line
found_more : {Y : Type 0} (f : Option ParsedScriptLine → Option Y) (parsed : List (Option ParsedScriptLine)) (index : ℕ) (value : Option ParsedScriptLine) (so_far : List Y) → index < length parsed → get_or parsed index None ≡ value → filter_map f (take index parsed) ≡ so_far → filter_map f (take (index + 1) parsed) ≡ so_far ++ cons_option (f value) []
found_more f parsed index value so_far inside is before =
    ap (filter_map f) (take_more parsed index None inside)
    ∙ filter_map-append f (take index parsed) (get_or parsed index None ∷ [])
    ∙ ap (λ s. filter_map f (take index parsed) ++ filter_map f (s ∷ [])) is
    ∙ ap (λ t. t ++ filter_map f (value ∷ [])) before

found_some : {Y : Type 0} (f : Option ParsedScriptLine → Option Y) (parsed : List (Option ParsedScriptLine)) (index : ℕ) (value : Option ParsedScriptLine) (so_far : List Y) (more : Y) → index < length parsed → get_or parsed index None ≡ value → filter_map f (take index parsed) ≡ so_far → f value ≡ Some more → filter_map f (take (index + 1) parsed) ≡ so_far ++ more ∷ []
found_some f parsed index value so_far more inside is before gives =
    found_more f parsed index value so_far inside is before ∙ ap (λ m. so_far ++ cons_option m []) gives

found_none : {Y : Type 0} (f : Option ParsedScriptLine → Option Y) (parsed : List (Option ParsedScriptLine)) (index : ℕ) (value : Option ParsedScriptLine) (so_far : List Y) → index < length parsed → get_or parsed index None ≡ value → filter_map f (take index parsed) ≡ so_far → f value ≡ None → filter_map f (take (index + 1) parsed) ≡ so_far
found_none f parsed index value so_far inside is before gives =
    found_more f parsed index value so_far inside is before ∙ ap (λ m. so_far ++ cons_option m []) gives ∙ append-nil so_far

-- the line in hand is good, or isn't
good_closed : (parsed : List (Option ParsedScriptLine)) (index : ℕ) (objects : List ObjectLine) (value : Option ParsedScriptLine) → IsHeadSoFar parsed index objects → get_or parsed index None ≡ value → IsHead objects value → IsGoodAt parsed index
good_closed parsed index objects value closed is head = rw (closed.opens, closed.objects, is) head

bad_closed : (parsed : List (Option ParsedScriptLine)) (index : ℕ) (objects : List ObjectLine) (value : Option ParsedScriptLine) → IsHeadSoFar parsed index objects → get_or parsed index None ≡ value → (IsHead objects value → ⊥) → IsGoodAt parsed index → ⊥
bad_closed parsed index objects value closed is none good = none (rw (closed.opens, closed.objects, is) at good)

good_open : (parsed : List (Option ParsedScriptLine)) (index : ℕ) (setup : Setup) (steps : List Step) (value : Option ParsedScriptLine) → IsOpenSoFar parsed index setup steps → get_or parsed index None ≡ value → IsStep value → IsGoodAt parsed index
good_open parsed index setup steps value opened is step = rw (opened.opens, is) step

bad_open : (parsed : List (Option ParsedScriptLine)) (index : ℕ) (setup : Setup) (steps : List Step) (value : Option ParsedScriptLine) → IsOpenSoFar parsed index setup steps → get_or parsed index None ≡ value → (IsStep value → ⊥) → IsGoodAt parsed index → ⊥
bad_open parsed index setup steps value opened is none good = none (rw (opened.opens, is) at good)

-- one more object
pub closed_more : (parsed : List (Option ParsedScriptLine)) (index : ℕ) (objects : List ObjectLine) (value : Option ParsedScriptLine) (line : ObjectLine) → index < length parsed → get_or parsed index None ≡ value → IsHeadSoFar parsed index objects → IsHead objects value → open_of value ≡ None → object_of value ≡ Some line → step_of value ≡ None → IsHeadSoFar parsed (index + 1) (objects ++ line ∷ [])
closed_more parsed index objects value line inside is closed head no_open gives no_step = record {
  good = below_more _ _ closed.good (good_closed parsed index objects value closed is head);
  opens = found_none open_of parsed index value [] inside is closed.opens no_open;
  objects = found_some object_of parsed index value objects line inside is closed.objects gives;
  steps = found_none step_of parsed index value [] inside is closed.steps no_step;
}

-- the setup
pub closed_open : (parsed : List (Option ParsedScriptLine)) (index : ℕ) (objects : List ObjectLine) (value : Option ParsedScriptLine) (setup : Setup) → index < length parsed → get_or parsed index None ≡ value → IsHeadSoFar parsed index objects → value ≡ Some (open_line setup) → IsFaultless objects → setup.table ≡ objects → IsOpenSoFar parsed (index + 1) setup []
closed_open parsed index objects value setup inside is closed is_open faultless table = record {
  within = omega arith;
  good = below_more _ _ closed.good (good_closed parsed index objects (Some (open_line setup)) closed (is ∙ is_open) faultless);
  opens = found_some open_of parsed index (Some (open_line setup)) [] (open_line setup) inside (is ∙ is_open) closed.opens refl;
  objects = found_none object_of parsed index (Some (open_line setup)) objects inside (is ∙ is_open) closed.objects refl ∙ sym table;
  steps = found_none step_of parsed index (Some (open_line setup)) [] inside (is ∙ is_open) closed.steps refl;
}

-- one more step
pub open_more : (parsed : List (Option ParsedScriptLine)) (index : ℕ) (setup : Setup) (steps : List Step) (value : Option ParsedScriptLine) (step : Step) → index < length parsed → get_or parsed index None ≡ value → IsOpenSoFar parsed index setup steps → IsStep value → step_of value ≡ Some step → IsOpenSoFar parsed (index + 1) setup (steps ++ step ∷ [])
open_more parsed index setup steps None step inside is opened good gives = absurd good
open_more parsed index setup steps (Some (Object threshold host service)) step inside is opened good gives = absurd good
open_more parsed index setup steps (Some (Open moment age capacity limit)) step inside is opened good gives = absurd good
open_more parsed index setup steps (Some (Clock moment)) step inside is opened good gives = record {
  within = omega arith;
  good = below_more _ _ opened.good (good_open parsed index setup steps (Some (Clock moment)) opened is good);
  opens = found_none open_of parsed index (Some (Clock moment)) (open_line setup ∷ []) inside is opened.opens refl;
  objects = found_none object_of parsed index (Some (Clock moment)) setup.table inside is opened.objects refl;
  steps = found_some step_of parsed index (Some (Clock moment)) steps step inside is opened.steps gives;
}
open_more parsed index setup steps (Some (Packet form timestamp code host service output)) step inside is opened good gives = record {
  within = omega arith;
  good = below_more _ _ opened.good (good_open parsed index setup steps (Some (Packet form timestamp code host service output)) opened is good);
  opens = found_none open_of parsed index (Some (Packet form timestamp code host service output)) (open_line setup ∷ []) inside is opened.opens refl;
  objects = found_none object_of parsed index (Some (Packet form timestamp code host service output)) setup.table inside is opened.objects refl;
  steps = found_some step_of parsed index (Some (Packet form timestamp code host service output)) steps step inside is opened.steps gives;
}
open_more parsed index setup steps (Some (Line text)) step inside is opened good gives = record {
  within = omega arith;
  good = below_more _ _ opened.good (good_open parsed index setup steps (Some (Line text)) opened is good);
  opens = found_none open_of parsed index (Some (Line text)) (open_line setup ∷ []) inside is opened.opens refl;
  objects = found_none object_of parsed index (Some (Line text)) setup.table inside is opened.objects refl;
  steps = found_some step_of parsed index (Some (Line text)) steps step inside is opened.steps gives;
}
open_more parsed index setup steps (Some Page) step inside is opened good gives = record {
  within = omega arith;
  good = below_more _ _ opened.good (good_open parsed index setup steps (Some Page) opened is good);
  opens = found_none open_of parsed index (Some Page) (open_line setup ∷ []) inside is opened.opens refl;
  objects = found_none object_of parsed index (Some Page) setup.table inside is opened.objects refl;
  steps = found_some step_of parsed index (Some Page) steps step inside is opened.steps gives;
}

-- the line in hand is the first faulty one
pub closed_fault : (parsed : List (Option ParsedScriptLine)) (index : ℕ) (objects : List ObjectLine) (value : Option ParsedScriptLine) → index < length parsed → get_or parsed index None ≡ value → IsHeadSoFar parsed index objects → (IsHead objects value → ⊥) → IsFirstFaultyLine parsed (index + 1)
closed_fault parsed index objects value inside is closed none = record {
  index = index;
  counted = refl;
  before = closed.good;
  faulty = inl (inside, bad_closed parsed index objects value closed is none);
}

pub closed_fault_is : (parsed : List (Option ParsedScriptLine)) (index : ℕ) (objects : List ObjectLine) (value : Option ParsedScriptLine) (P : Type 0) (fault : ScriptFault) → index < length parsed → get_or parsed index None ≡ value → IsHeadSoFar parsed index objects → IsLineFault (index + 1) P fault → (P → IsHead objects value → ⊥) → IsFaultOf parsed fault
closed_fault_is parsed index objects value P (fault.Line number) inside is closed gives none = rw gives.0 (closed_fault parsed index objects value inside is closed (none gives.1))
closed_fault_is parsed index objects value P fault.OutOfMemory inside is closed gives none = tt

pub open_fault_is : (parsed : List (Option ParsedScriptLine)) (index : ℕ) (setup : Setup) (steps : List Step) (value : Option ParsedScriptLine) (fault : ScriptFault) → index < length parsed → get_or parsed index None ≡ value → IsOpenSoFar parsed index setup steps → IsLineFault (index + 1) (IsStep value → ⊥) fault → IsFaultOf parsed fault
open_fault_is parsed index setup steps value (fault.Line number) inside is opened gives = rw gives.0 (record {
  index = index;
  counted = refl;
  before = opened.good;
  faulty = inl (inside, bad_open parsed index setup steps value opened is gives.1);
})
open_fault_is parsed index setup steps value fault.OutOfMemory inside is opened gives = tt

-- all lines are read
pub open_end : (parsed : List (Option ParsedScriptLine)) (index : ℕ) (script : Script) → length parsed ≤ index → IsOpenSoFar parsed index script.setup script.steps.items → IsScript parsed script
open_end parsed index script long so =
    let whole : take index parsed ≡ parsed = take_all index parsed long in
    record {
      good = subst (AreGood parsed) (omega (arith, long, so.within)) so.good;
      opens = subst (λ (front : List (Option ParsedScriptLine)). opens_in front ≡ open_line script.setup ∷ []) whole so.opens;
      objects = subst (λ (front : List (Option ParsedScriptLine)). objects_in front ≡ script.setup.table) whole so.objects;
      steps = subst (λ (front : List (Option ParsedScriptLine)). steps_in front ≡ script.steps.items) whole so.steps;
    }
