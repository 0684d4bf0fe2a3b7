use Rattle.std.proofs.Common.{rules}
use Rattle.bson_values.specs.declared.value.Value.TheViews.{the_lemmas}
use Rattle.bson_spelling.proofs.Helds.{doc-held}
use Rattle.bson_spelling.proofs.Sizes.{element-fits, item-fits}
use Rattle.bson_spelling.proofs.writing.+writing.Goals as goal

pub put_content-put_document-requires : goal.put_content-put_document-requires
put_content-put_document-requires t c = (search (rules, the_lemmas), rw (doc-held _ _ _ c.in-Doc.is) at c.requires.room)

pub put_content-returns-in-Doc-clause-items : goal.put_content-returns-in-Doc-clause-items
put_content-returns-in-Doc-clause-items t c = rw (doc-held _ _ _ c.in-Doc.is) c.put_document.ensures.items

pub put_content-returns-in-Doc-clause-spare : goal.put_content-returns-in-Doc-clause-spare
put_content-returns-in-Doc-clause-spare t c = rw (doc-held _ _ _ c.in-Doc.is) c.put_document.ensures.spare

pub put_elements-put_element-requires : goal.put_elements-put_element-requires
put_elements-put_element-requires t c =
    let pairs = c.as_slice-pair-items.result.now in
    let fits = element-fits _ pairs c.loop-pair.pair-index _ _ c.pair-item.result c.pair-item.is c.loop-pair-test.true
    (rw c.as_slice-pair-items.ensures c.requires.room) c.loop-pair.invariant.1 in
    (search (rules, the_lemmas), rw c.as_str.ensures fits)

pub put_items-put_item-requires : goal.put_items-put_item-requires
put_items-put_item-requires t c =
    let items = c.as_slice-item-items.result.now in (
      search (rules, the_lemmas),
      item-fits _ items c.loop-item.place c.loop-item.item-index _ _ c.item-item.result c.item-item.is c.loop-item-test.true
          (rw c.as_slice-item-items.ensures c.requires.room) c.loop-item.invariant.2,
    )
