use Rattle.std.proofs.Common.{refl, ap, length, List, ℕ, ◌+◌, ◌++◌, ◌∙◌, ◌≡◌, set, get_or}
use Rattle.reply_words.proofs.Appended.{moved}
use Rattle.reply_words.proofs.elements.put_value.Goals as goal

pub returns-clause-items : goal.returns-clause-items
returns-clause-items c =
    let before = c.args.out.now.items in
    let name = c.args.name.now in
    let bytes = c.put_tagged.new.out.items in
    let start : length c.items-start.result.now ≡ length before = ap length c.items-start.ensures in
    let named = c.extend_in.ensures.items ∙ ap (λ (it : List ℕ). c.push_in.new.self.items ++ it) c.as_bytes.ensures.value in
    moved before name _ _ _ _ _ _ (length before + 1 + length name) c.push_in.ensures.items named c.put_tagged.ensures.items refl
    (c.shift.ensures.items
    ∙ (λ i. set (set bytes (start i) (get_or bytes (start i + 1 + length name) 0)) (start i + 1 + length name) 0))
