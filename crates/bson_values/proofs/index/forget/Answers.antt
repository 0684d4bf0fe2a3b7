use Rattle.std.proofs.Common.{◌∙◌, ap, sym, cond, option_map}
use Rattle.std.specs.BTreeMap.{get_by_text}
use Rattle.std.specs.Str.{bytes_eq}
use Rattle.bson_values.specs.Places.{lowered, next_place}
use Rattle.bson_values.proofs.Removals.{is_here, forgot_first, forgot_later}
use Rattle.bson_values.proofs.index.forget.Goals as goal

pub returns-then-is_first : goal.returns-then-is_first
returns-then-is_first c = λ names has next is name.
    let first = ap (λ found. is_here found c.args.place) (sym (is c.args.name.now))
    ∙ ap (λ found. is_here found c.args.place) (sym c.first.ensures) ∙ sym c.if-is_first.ensures in
    c.put.ensures name
    ∙ ap (λ place. cond (bytes_eq c.args.name.now name) place (get_by_text c.lower.new.index name)) next
    ∙ ap (λ place. cond (bytes_eq c.args.name.now name) (next_place c.args.name.now c.args.place names) place)
    (c.lower.ensures name ∙ ap (option_map (lowered c.args.place)) (is name))
    ∙ forgot_first c.args.name.now names c.args.place has first name

pub returns-else-is_first : goal.returns-else-is_first
returns-else-is_first c = λ names has next is name.
    let later = ap (λ found. is_here found c.args.place) (sym (is c.args.name.now))
    ∙ ap (λ found. is_here found c.args.place) (sym c.first.ensures) ∙ sym c.if-is_first.ensures in
    c.lower.ensures name
    ∙ ap (option_map (lowered c.args.place)) (is name)
    ∙ forgot_later c.args.name.now names c.args.place has later name
