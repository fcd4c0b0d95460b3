-- The head of a page, its alarms, counts and form: each text stands in an element or in a value.
use Rattle.std.proofs.Common.{◌≡◌, ℕ, ◌-◌, Bool, false, List, [], ◌∷◌, ◌++◌, Option, Some, None, refl, true}
use Rattle.std.specs.Prelude.{nat_lt, codes}
use Rattle.std.specs.List.{list_any, flat_map, enumerate_from}
use Rattle.std.proofs.lemmas.Bool.{or_parts}
use Rattle.gate_model.specs.declared.state.State.{State}
use Rattle.gate_model.specs.declared.state.State.TheVariants as state
use Rattle.gate_lines.specs.Lines.{state_name}
use Rattle.html_text.specs.Escaping.{is_markup}
use Rattle.status_merge.specs.declared.query.Choice.{Choice}
use Rattle.status_merge.specs.declared.query.Choice.TheVariants.{All, Problems, Unhandled, Stale, In}
use Rattle.status_merge.specs.declared.query.Sort.{Sort}
use Rattle.status_merge.specs.declared.query.Sort.TheVariants as sort
use Rattle.status_merge.specs.Asking.{state_word, choice_word, mark_word, sort_word}
use Rattle.status_view.specs.declared.layout.AskedText.{AskedText}
use Rattle.status_view.specs.declared.layout.AskedText.TheVariants as asked
use Rattle.status_memory.specs.declared.alarm.Alarm.{Alarm}
use Rattle.status_memory.specs.declared.alarm.Alarm.TheVariants.{NoPage, NoNewPage, StandsStill, ClockAhead, Closing, FewerObjects, OtherObjects}
use Rattle.status_view.specs.Layout.{nodes_if}
use Rattle.status_view.specs.Shapes.{GatewayShapeView, PageShapeView}
use Rattle.status_view.specs.HeadLayout.{refresh_nodes, unhandled_nodes, document_nodes, page_moment_nodes, gateway_nodes, title_nodes, alarm_begin, missing_nodes, closing_nodes, still_nodes, ahead_nodes, old_nodes, fewer_nodes, other_nodes, alarm_nodes, alarms_of, alarms_nodes}
use Rattle.status_view.specs.SummaryLayout.{TileView, tile_nodes, group_nodes, all_tiles, host_tiles, service_tiles, summary_nodes}
use Rattle.status_view.specs.AskedLayout.{option_nodes, mark_option_nodes, mark_nodes, text_nodes, texts_nodes, form_choices, form_nodes, choice_nodes, asked_text_nodes, asked_texts_nodes, asked_mark_nodes, asked_nodes, filter_nodes}
use Rattle.page_tags.specs.Tags.{InText, InDouble}
use Rattle.page_tags.proofs.Placing.{run, place_after, plain, joined, run_if, same, each}
use Rattle.page_tags.proofs.Times.{span, time}

-- ---- words of the program

pub state_plain : (state : State) → list_any is_markup (state_name state) ≡ false
state_plain state.Pending = refl
state_plain state.Ok = refl
state_plain state.Warning = refl
state_plain state.Critical = refl
state_plain state.Unknown = refl
state_plain state.Up = refl
state_plain state.Down = refl
state_plain state.Unreachable = refl

word_plain : (state : State) → list_any is_markup (state_word state) ≡ false
word_plain state.Pending = refl
word_plain state.Ok = refl
word_plain state.Warning = refl
word_plain state.Critical = refl
word_plain state.Unknown = refl
word_plain state.Up = refl
word_plain state.Down = refl
word_plain state.Unreachable = refl

pub choice_plain : (choice : Choice) → list_any is_markup (choice_word choice) ≡ false
choice_plain All = refl
choice_plain Problems = refl
choice_plain Unhandled = refl
choice_plain Stale = refl
choice_plain (In state) = word_plain state

-- ---- the head

refresh : (seconds : ℕ) → run InText (refresh_nodes seconds) ≡ Some InText
unfolding refresh_nodes
refresh seconds = simp (run_if, same)

unhandled : (count : ℕ) → run InText (unhandled_nodes count) ≡ Some InText
unfolding unhandled_nodes
unhandled count = simp (run_if, same)

pub document : (seconds count : ℕ) → run InText (document_nodes seconds count) ≡ Some InText
unfolding document_nodes
document seconds count = simp (joined, refresh seconds, unhandled count)

page_moment : (index moment : ℕ) → run InText (page_moment_nodes index moment) ≡ Some InText
unfolding page_moment_nodes
page_moment index moment = simp (joined, time moment)

gateway_moment : (index : ℕ) (moment : Option ℕ) → run InText (elim moment [ Some moment ↦ page_moment_nodes index moment | None ↦ [] ]) ≡ Some InText
gateway_moment index (Some moment) = page_moment index moment
gateway_moment index None = refl

gateway : (index : ℕ) (shape : GatewayShapeView) → run InText (gateway_nodes index shape) ≡ Some InText
unfolding gateway_nodes
gateway index shape = gateway_moment index shape.moment

pub title : (gateways : List GatewayShapeView) → run InText (title_nodes gateways) ≡ Some InText
unfolding title_nodes
title gateways = simp (joined, each (λ item. gateway_nodes item.0 item.1) InText (λ item. gateway item.0 item.1) (enumerate_from 0 gateways))

-- ---- alarms

begin : (index : ℕ) → run InText (alarm_begin index) ≡ Some InText
unfolding alarm_begin
begin index = refl

missing : (index : ℕ) → run InText (missing_nodes index) ≡ Some InText
unfolding missing_nodes
missing index = simp (joined, begin index)

closing : (index : ℕ) → run InText (closing_nodes index) ≡ Some InText
unfolding closing_nodes
closing index = simp (joined, begin index)

still : (index age : ℕ) → run InText (still_nodes index age) ≡ Some InText
unfolding still_nodes
still index age = simp (joined, begin index, span InText age)

old : (index age : ℕ) → run InText (old_nodes index age) ≡ Some InText
unfolding old_nodes
old index age = simp (joined, begin index, span InText age)

fewer : (index objects most : ℕ) → run InText (fewer_nodes index objects most) ≡ Some InText
unfolding fewer_nodes
fewer index objects most = simp (joined, begin index)

ahead : (index seconds : ℕ) → run InText (ahead_nodes index seconds) ≡ Some InText
unfolding ahead_nodes
ahead index seconds = simp (joined, begin index, span InText seconds)

other : (index : ℕ) → run InText (other_nodes index) ≡ Some InText
unfolding other_nodes
other index = simp (joined, begin index)

alarm : (index : ℕ) (one : Alarm) → run InText (alarm_nodes index one) ≡ Some InText
unfolding alarm_nodes
alarm index NoPage = missing index
alarm index (NoNewPage age) = old index age
alarm index (StandsStill age) = still index age
alarm index (ClockAhead seconds) = ahead index seconds
alarm index Closing = closing index
alarm index (FewerObjects objects most) = fewer index objects most
alarm index OtherObjects = other index

gateway_alarms : (index : ℕ) (shape : GatewayShapeView) → run InText (alarms_of index shape) ≡ Some InText
gateway_alarms index shape = each (alarm_nodes index) InText (alarm index) shape.alarms

pub alarms : (gateways : List GatewayShapeView) → run InText (alarms_nodes gateways) ≡ Some InText
alarms gateways = each (λ item. alarms_of item.0 item.1) InText (λ item. gateway_alarms item.0 item.1) (enumerate_from 0 gateways)

-- ---- counts

tile : (shape : PageShapeView) (one : TileView) → list_any is_markup one.name ≡ false → run InText (tile_nodes shape one) ≡ Some InText
unfolding tile_nodes
tile shape one is = simp (joined, run_if, same, plain InDouble (choice_word one.choice) (choice_plain one.choice), plain InText one.name is)

group : (shape : PageShapeView) (name : List ℕ) (tiles : List TileView) → list_any is_markup name ≡ false
    → run InText (flat_map (tile_nodes shape) tiles) ≡ Some InText
    → run InText (group_nodes shape name tiles) ≡ Some InText
unfolding group_nodes
group shape name tiles is stays = simp (joined, stays, plain InText name is)

tiles_stay : (shape : PageShapeView) (tiles : List TileView) → list_any (λ (one : TileView). list_any is_markup one.name) tiles ≡ false
    → run InText (flat_map (tile_nodes shape) tiles) ≡ Some InText
tiles_stay shape [] is = refl
tiles_stay shape (one ∷ tiles) is =
    let facts = or_parts (list_any is_markup one.name) (list_any (λ (one : TileView). list_any is_markup one.name) tiles) is in
    simp (joined, tile shape one facts.0, tiles_stay shape tiles facts.1)

all_group : (shape : PageShapeView) → run InText (flat_map (tile_nodes shape) (all_tiles shape)) ≡ Some InText
unfolding all_tiles
all_group shape = tiles_stay shape (all_tiles shape) refl

host_group : (shape : PageShapeView) → run InText (flat_map (tile_nodes shape) (host_tiles shape)) ≡ Some InText
unfolding host_tiles
host_group shape = tiles_stay shape (host_tiles shape) refl

service_group : (shape : PageShapeView) → run InText (flat_map (tile_nodes shape) (service_tiles shape)) ≡ Some InText
unfolding service_tiles
service_group shape = tiles_stay shape (service_tiles shape) refl

pub summary : (shape : PageShapeView) → run InText (summary_nodes shape) ≡ Some InText
unfolding summary_nodes
summary shape = simp (joined, group shape (codes "All") (all_tiles shape) refl (all_group shape), group shape (codes "Hosts") (host_tiles shape) refl (host_group shape), group shape (codes "Services") (service_tiles shape) refl (service_group shape))

-- ---- the form

option : (chosen choice : Choice) → run InText (option_nodes chosen choice) ≡ Some InText
unfolding option_nodes
option chosen choice = simp (joined, run_if, same, plain InText (choice_word choice) (choice_plain choice))

mark_plain : (mark : Option Bool) → list_any is_markup (mark_word mark) ≡ false
mark_plain None = refl
mark_plain (Some true) = refl
mark_plain (Some false) = refl

mark_option : (chosen mark : Option Bool) → run InText (mark_option_nodes chosen mark) ≡ Some InText
unfolding mark_option_nodes
mark_option chosen mark = simp (joined, run_if, same, plain InText (mark_word mark) (mark_plain mark))

marks : (begin : List ℕ) (chosen : Option Bool) → place_after InText begin ≡ InText → run InText (mark_nodes begin chosen) ≡ Some InText
unfolding mark_nodes
marks begin chosen is = simp (joined, is, mark_option chosen None, mark_option chosen (Some true), mark_option chosen (Some false))

text : (begin : List ℕ) (what : AskedText) → place_after InText begin ≡ InDouble → run InText (text_nodes begin what) ≡ Some InText
unfolding text_nodes
text begin what is = simp is

texts : run InText texts_nodes ≡ Some InText
unfolding texts_nodes
texts =
    simp (
      joined,
      text (codes " <label>Host <input name=\"host\" value=\"") asked.Host refl,
      text (codes " <label>Host, exactly <input name=\"hostname\" value=\"") asked.Hostname refl,
      text (codes " <label>Service <input name=\"service\" value=\"") asked.Service refl,
      text (codes " <label>Output <input name=\"output\" value=\"") asked.Output refl,
      text (codes " <label>Gateway <input name=\"gateway\" value=\"") asked.Gateway refl,
    )

sort_plain : (order : Sort) → list_any is_markup (sort_word order) ≡ false
sort_plain sort.Worst = refl
sort_plain sort.Host = refl
sort_plain sort.Since = refl
sort_plain sort.Last = refl

form : (shape : PageShapeView) → run InText (form_nodes shape) ≡ Some InText
unfolding form_nodes
form shape =
    simp (
      joined,
      each (option_nodes shape.choice) InText (option shape.choice) form_choices,
      texts,
      marks (codes " <label>Acknowledged <select name=\"acknowledged\">") shape.acknowledged refl,
      marks (codes " <label>In downtime <select name=\"downtime\">") shape.downtime refl,
      plain InDouble (sort_word shape.sort) (sort_plain shape.sort),
    )

-- ---- what is asked for

choice : (one : Choice) → run InText (choice_nodes one) ≡ Some InText
unfolding choice_nodes
choice one = simp (run_if, same, plain InText (choice_word one) (choice_plain one))

asked_text : (begin : List ℕ) (is : Bool) (what : AskedText) → place_after InText begin ≡ InText → run InText (asked_text_nodes begin is what) ≡ Some InText
unfolding asked_text_nodes
asked_text begin is what stays = simp (run_if, same, stays)

asked_mark : (begin : List ℕ) (mark : Option Bool) → place_after InText begin ≡ InText → run InText (asked_mark_nodes begin mark) ≡ Some InText
unfolding asked_mark_nodes
asked_mark begin mark stays = simp (run_if, same, stays, plain InText (mark_word mark) (mark_plain mark))

asked_texts : (shape : PageShapeView) → run InText (asked_texts_nodes shape) ≡ Some InText
unfolding asked_texts_nodes
asked_texts shape =
    simp (
      joined,
      asked_text (codes " <span class=\"badge\">host has <bdi>") shape.texts.host asked.Host refl,
      asked_text (codes " <span class=\"badge\">host is <bdi>") shape.texts.hostname asked.Hostname refl,
      asked_text (codes " <span class=\"badge\">service has <bdi>") shape.texts.service asked.Service refl,
      asked_text (codes " <span class=\"badge\">output has <bdi>") shape.texts.output asked.Output refl,
      asked_text (codes " <span class=\"badge\">gateway is <bdi>") shape.texts.gateway asked.Gateway refl,
    )

asked_for : (shape : PageShapeView) → run InText (asked_nodes shape) ≡ Some InText
unfolding asked_nodes
asked_for shape =
    simp (
      joined,
      choice shape.choice,
      asked_texts shape,
      asked_mark (codes " <span class=\"badge\">acknowledged ") shape.acknowledged refl,
      asked_mark (codes " <span class=\"badge\">in downtime ") shape.downtime refl,
    )

pub filter_part : (shape : PageShapeView) → run InText (filter_nodes shape) ≡ Some InText
filter_part shape = simp (run_if, same, form shape, asked_for shape)
