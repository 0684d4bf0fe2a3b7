use Rattle.bson_spelling.proofs.Helds.{doc-held}
use Rattle.bson_spelling.proofs.counting.+counting.Goals as goal

pub content_len-returns-in-Doc : goal.content_len-returns-in-Doc
content_len-returns-in-Doc t c = rw (doc-held _ _ _ c.in-Doc.is) c.document_len.ensures
