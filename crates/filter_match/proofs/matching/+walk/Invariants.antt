use Rattle.std.proofs.Common.{◌≡◌, ◌<◌, ◌+◌, ◌*◌, ℕ, false, drop, length}
use Rattle.std.specs.List.{list_any, list_all}
use Rattle.std.specs.Option.{option_copied}
use Rattle.doc_paths.specs.Reach.{reached, behind_field}
use Rattle.filter_syntax.specs.Meaning.{holds}
use Rattle.filter_match.specs.Asking.{meets_all, meets, any_equal, all_equal, all_met}
use Rattle.filter_syntax.specs.declared.filter.Test.{size-Test}
use Rattle.bson_values.specs.declared.value.Value.TheVariants as value
use Rattle.filter_match.specs.Tails.{is_open, some_open, answers, any_from, element_answers}
use Rattle.filter_match.specs.declared.asking.Ask.{Ask}
use Rattle.filter_match.specs.declared.asking.Ask.TheVariants.{Equal, By}
use Rattle.filter_match.proofs.matching.+walk.Given as goal

-- how deep the operator is that asks
abbrev ask_size : Ask → ℕ
ask_size (Equal wanted) = 0
ask_size (By test) = size-Test test.now

abbrev pub decreases-matches : goal.decreases-matches
decreases-matches l = 2000 * goal.size-matches l

abbrev pub decreases-all_match : goal.decreases-all_match
decreases-all_match l = 2000 * goal.size-all_match l + 1

abbrev pub decreases-any_matches : goal.decreases-any_matches
decreases-any_matches l = 2000 * goal.size-any_matches l + 1

abbrev pub decreases-is_met : goal.decreases-is_met
decreases-is_met l = 2000 * goal.size-is_met l + 1200

abbrev pub decreases-all_are_met : goal.decreases-all_are_met
decreases-all_are_met l = 2000 * goal.size-all_are_met l + 1201

abbrev pub decreases-any_is_reached : goal.decreases-any_is_reached
decreases-any_is_reached l = 1150

abbrev pub decreases-all_are_reached : goal.decreases-all_are_reached
decreases-all_are_reached l = 1150

abbrev pub decreases-any_reached : goal.decreases-any_reached
decreases-any_reached l = 2000 * ask_size l.ask + 8 * length l.parts.now + 106

abbrev pub decreases-any_behind : goal.decreases-any_behind
decreases-any_behind l = 2000 * ask_size l.ask + 8 * length l.parts.now + 105

abbrev pub decreases-any_from_value : goal.decreases-any_from_value
decreases-any_from_value l = 2000 * ask_size l.ask + 8 * length l.parts.now + 104

abbrev pub decreases-any_beyond : goal.decreases-any_beyond
decreases-any_beyond l = 2000 * ask_size l.ask + 8 * length l.parts.now + 103

abbrev pub decreases-any_in_items : goal.decreases-any_in_items
decreases-any_in_items l = 2000 * ask_size l.ask + 8 * length l.parts.now + 102

abbrev pub decreases-any_in_item : goal.decreases-any_in_item
decreases-any_in_item l = 2000 * ask_size l.ask + 8 * length l.parts.now + 101

abbrev pub decreases-any_in_fields : goal.decreases-any_in_fields
decreases-any_in_fields l = 2000 * ask_size l.ask + 8 * length l.parts.now + 100

abbrev pub decreases-is_asked : goal.decreases-is_asked
decreases-is_asked l = 2000 * ask_size l.ask + 51

abbrev pub decreases-ask_found : goal.decreases-ask_found
decreases-ask_found l = 2000 * ask_size l.ask + 50

abbrev pub decreases-any_meets_all : goal.decreases-any_meets_all
decreases-any_meets_all l = 2000 * goal.size-any_meets_all l + 1202

abbrev pub decreases-any_meets : goal.decreases-any_meets
decreases-any_meets l = 2000 * goal.size-any_meets l + 1

abbrev pub invariant-all_match-loop-filter : goal.invariant-all_match-loop-filter
invariant-all_match-loop-filter l = list_all (λ filter. holds filter l.doc) l.filters
    ≡ list_all (λ filter. holds filter l.doc) (drop l.filter-index l.filters)

abbrev pub invariant-any_matches-loop-filter : goal.invariant-any_matches-loop-filter
invariant-any_matches-loop-filter l = list_any (λ filter. holds filter l.doc) l.filters
    ≡ list_any (λ filter. holds filter l.doc) (drop l.filter-index l.filters)

abbrev pub invariant-all_are_met-loop-test : goal.invariant-all_are_met-loop-test
invariant-all_are_met-loop-test l =
    let values = behind_field (reached l.parts) (option_copied l.value) in
    all_met l.tests values ≡ all_met (drop l.test-index l.tests) values

abbrev pub invariant-any_is_reached-loop-one : goal.invariant-any_is_reached-loop-one
invariant-any_is_reached-loop-one l =
    let values = behind_field (reached l.parts) (option_copied l.value) in
    any_equal l.wanted values ≡ any_equal (drop l.one-index l.wanted) values

abbrev pub invariant-all_are_reached-loop-one : goal.invariant-all_are_reached-loop-one
invariant-all_are_reached-loop-one l =
    let values = behind_field (reached l.parts) (option_copied l.value) in
    all_equal l.wanted values ≡ all_equal (drop l.one-index l.wanted) values

abbrev pub invariant-any_meets_all-loop-item : goal.invariant-any_meets_all-loop-item
invariant-any_meets_all-loop-item l = list_any (meets_all l.tests) l.items ≡ list_any (meets_all l.tests) (drop l.item-index l.items)

abbrev pub invariant-any_meets-loop-item : goal.invariant-any_meets-loop-item
invariant-any_meets-loop-item l = list_any (meets l.filter) l.items ≡ list_any (meets l.filter) (drop l.item-index l.items)

abbrev pub invariant-any_in_fields-loop-place : goal.invariant-any_in_fields-loop-place
invariant-any_in_fields-loop-place l =
    let test = answers l.ask l.parts (value.Doc l.document) in
    (some_open l.marks (length l.parts) test ≡ some_open l.left (length l.parts) test)
    × ((k : ℕ) → k < l.place → is_open l.left k ≡ false)

abbrev pub invariant-any_in_items-loop-place : goal.invariant-any_in_items-loop-place
invariant-any_in_items-loop-place l =
    let test = element_answers l.ask l.parts l.marks in
    any_from test 0 l.items ≡ any_from test l.place (drop l.place l.items)
