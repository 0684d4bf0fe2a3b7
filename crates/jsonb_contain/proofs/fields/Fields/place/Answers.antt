use Rattle.std.proofs.Common.{◌∙◌, ap, rules}
use Rattle.std.proofs.lemmas.List.Sorted.{IsPartitionPoint-from_clause}
use Rattle.jsonb_contain.specs.Rising.{is_below, is_rising, place_of}
use Rattle.bson_values.specs.Names.{names}
use Rattle.jsonb_contain.proofs.Places.{parted, place_from}
use Rattle.jsonb_contain.proofs.fields.Fields.place.Goals as goal

pub returns-clause-same : goal.returns-clause-same
returns-clause-same g c =
    let name = c.args.name.now in
    let point = IsPartitionPoint-from_clause (λ pair. is_below pair.name name) _ _ c.partition_point.ensures.partitioned
    (parted name _ (ap (λ ps. is_rising (names ps)) c.as_slice-pairs.ensures.same ∙ c.as_slice-pairs.ensures.rising))
    (λ a r q k. search rules) in
    place_from name _ _ c.partition_point.ensures.bound point ∙ ap (λ ps. place_of name ps) c.as_slice-pairs.ensures.same
