-- The bytes that tell that memory was wanting.
use Rattle.std.proofs.Common.{◌≡◌, [], ◌∷◌, ◌++◌, sym, ap}
use Rattle.std.specs.Prelude.{codes, None}
use Rattle.bson_spelling.specs.declared.form.Form.TheVariants.{Bson}
use Rattle.bson_spelling.specs.Spelling.{element_of, enclosed, spell}
use Rattle.case_tables.specs.Refusals.{code_of, code_name_of, text_of}
use Rattle.reply_words.specs.declared.replies.Reply.TheVariants as it
use Rattle.reply_words.specs.Replies.{document_of}
use Rattle.reply_words.proofs.Named.{held-Int, held-Str}

-- `{ok: 0, errmsg: "out of memory", code: 146, codeName: "ExceededMemoryLimit"}`
pub starved_is :
    83 ∷ 0 ∷ 0 ∷ 0 ∷ 16 ∷ 111 ∷ 107 ∷ 0 ∷ 0 ∷ 0 ∷ 0 ∷ 0 ∷ 2 ∷ 101 ∷ 114 ∷ 114 ∷ 109 ∷ 115 ∷ 103 ∷ 0 ∷ 14 ∷ 0 ∷ 0 ∷ 0 ∷ 111 ∷
    117 ∷ 116 ∷ 32 ∷ 111 ∷ 102 ∷ 32 ∷ 109 ∷ 101 ∷ 109 ∷ 111 ∷ 114 ∷ 121 ∷ 0 ∷ 16 ∷ 99 ∷ 111 ∷ 100 ∷ 101 ∷ 0 ∷ 146 ∷ 0 ∷ 0 ∷ 0 ∷
    2 ∷ 99 ∷ 111 ∷ 100 ∷ 101 ∷ 78 ∷ 97 ∷ 109 ∷ 101 ∷ 0 ∷ 20 ∷ 0 ∷ 0 ∷ 0 ∷ 69 ∷ 120 ∷ 99 ∷ 101 ∷ 101 ∷ 100 ∷ 101 ∷ 100 ∷ 77 ∷
    101 ∷ 109 ∷ 111 ∷ 114 ∷ 121 ∷ 76 ∷ 105 ∷ 109 ∷ 105 ∷ 116 ∷ 0 ∷ 0 ∷ []
    ≡ spell (document_of (it.Error 24 None))
unfolding code_of code_name_of text_of
starved_is = sym (ap (enclosed Bson) (λ i.
    element_of (codes "ok") (held-Int 0 i)
    ++ (element_of (codes "errmsg") (held-Str (text_of 24) i)
    ++ (element_of (codes "code") (held-Int (code_of 24) i) ++ (element_of (codes "codeName") (held-Str (code_name_of 24) i) ++ [])))))
