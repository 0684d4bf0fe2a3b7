use Rattle.std.proofs.Common.{true, ap, ◌∙◌}
use Rattle.bson_values.specs.declared.value.Value.TheViews.{out-Value}
use Rattle.bson_values.specs.declared.value.Value.TheVariants as value
use Rattle.bson_values.specs.declared.value.Value.TheOpen.{Value-F}
use Rattle.bson_order.specs.Plain.{IsPlain, IsPlainPair}
use Rattle.bson_order.proofs.Plains.{plain_by, always, all_more, all_done}
use Rattle.bson_order.proofs.plain.+plain.Goals as goal

pub is_plain-returns-in-Str : goal.is_plain-returns-in-Str
is_plain-returns-in-Str t c = plain_by _ (Value-F.Str _) true (ap out-Value c.in-Str.is ∙ value.outs-Str _) (always tt)

pub is_plain-returns-in-Doc : goal.is_plain-returns-in-Doc
is_plain-returns-in-Doc t c = plain_by _ (Value-F.Doc _) _ (ap out-Value c.in-Doc.is ∙ value.outs-Doc _) (c.is_plain_document.ensures)

pub is_plain-returns-in-Arr : goal.is_plain-returns-in-Arr
is_plain-returns-in-Arr t c = plain_by _ (Value-F.Arr _) _ (ap out-Value c.in-Arr.is ∙ value.outs-Arr _) (c.is_plain_array.ensures)

pub is_plain-returns-in-Bin : goal.is_plain-returns-in-Bin
is_plain-returns-in-Bin t c = plain_by _ (Value-F.Bin _) true (ap out-Value c.in-Bin.is ∙ value.outs-Bin _) (always tt)

pub is_plain-returns-in-Id : goal.is_plain-returns-in-Id
is_plain-returns-in-Id t c = plain_by _ (Value-F.Id _) true (ap out-Value c.in-Id.is ∙ value.outs-Id _) (always c.id_is_whole.ensures)

pub is_plain-returns-in-Bool : goal.is_plain-returns-in-Bool
is_plain-returns-in-Bool t c = plain_by _ (Value-F.Bool _) true (ap out-Value c.in-Bool.is ∙ value.outs-Bool _) (always tt)

pub is_plain-returns-in-Date : goal.is_plain-returns-in-Date
is_plain-returns-in-Date t c = plain_by _ (Value-F.Date _) true (ap out-Value c.in-Date.is ∙ value.outs-Date _) (always search)

pub is_plain-returns-in-Null : goal.is_plain-returns-in-Null
is_plain-returns-in-Null t c = plain_by _ Value-F.Null true (ap out-Value c.in-Null.is ∙ value.outs-Null) (always tt)

pub is_plain-returns-in-Regex : goal.is_plain-returns-in-Regex
is_plain-returns-in-Regex t c = plain_by _ (Value-F.Regex _) _ (ap out-Value c.in-Regex.is ∙ value.outs-Regex _) (c.is_plain_regex.ensures)

pub is_plain-returns-in-Int : goal.is_plain-returns-in-Int
is_plain-returns-in-Int t c = plain_by _ (Value-F.Int _) true (ap out-Value c.in-Int.is ∙ value.outs-Int _) (always search)

pub is_plain-returns-in-Stamp : goal.is_plain-returns-in-Stamp
is_plain-returns-in-Stamp t c = plain_by _ (Value-F.Stamp _) true (ap out-Value c.in-Stamp.is ∙ value.outs-Stamp _) (always search)

pub is_plain-returns-in-Long : goal.is_plain-returns-in-Long
is_plain-returns-in-Long t c = plain_by _ (Value-F.Long _) true (ap out-Value c.in-Long.is ∙ value.outs-Long _) (always search)

pub is_plain_array-loop-item-preserved : goal.is_plain_array-loop-item-preserved
is_plain_array-loop-item-preserved t c =
    all_more IsPlain c.as_slice-item-items.result.now c.loop-item.item-index c.item-item.result c.item-item.is c.loop-item-test.true
    c.loop-item.invariant (c.is_plain.ensures.0 c.if-not-is_plain.false)

pub is_plain_array-returns : goal.is_plain_array-returns
is_plain_array-returns t c = all_done IsPlain _ _ _ c.as_slice-item-items.ensures c.loop-item-test.false c.loop-item.invariant

pub is_plain_document-loop-pair-preserved : goal.is_plain_document-loop-pair-preserved
is_plain_document-loop-pair-preserved t c =
    all_more IsPlainPair c.as_slice-pair-items.result.now c.loop-pair.pair-index c.pair-item.result c.pair-item.is c.loop-pair-test.true
    c.loop-pair.invariant
    (rw c.as_str.ensures at (c.has_no_nul.ensures.0 c.if-not-has_no_nul.false), c.is_plain.ensures.0 c.if-not-is_plain.false)

pub is_plain_document-returns : goal.is_plain_document-returns
is_plain_document-returns t c = all_done IsPlainPair _ _ _ c.as_slice-pair-items.ensures c.loop-pair-test.false c.loop-pair.invariant
