use Rattle.std.proofs.Common.{◌∙◌, ap, sym, cond, None, Some}
use Rattle.std.proofs.lemmas.Map.Text.{btree_map_updates_text}
use Rattle.std.specs.BTreeMap.{get_by_text}
use Rattle.std.specs.Str.{bytes_eq}
use Rattle.bson_values.proofs.index.put.Goals as goal

pub returns-in-Some-get_mut : goal.returns-in-Some-get_mut
returns-in-Some-get_mut c = λ other.
    btree_map_updates_text c.args.name.now c.args.index.now (c.get_mut.follows.lender c.in-Some.place) (Some c.in-Some.place)
    ((c.get_mut.follows.holds c.in-Some.place).3 c.requires) other
    ∙ ap (λ place. cond (bytes_eq c.args.name.now other) place (get_by_text c.args.index.now other)) (sym c.in-Some.is)

pub returns-in-None : goal.returns-in-None
returns-in-None c = λ other.
    btree_map_updates_text c.args.name.now c.args.index.now c.remove.new.self None c.remove.ensures.updates other
    ∙ ap (λ place. cond (bytes_eq c.args.name.now other) place (get_by_text c.args.index.now other)) (sym c.in-None.is)
