-- Texts that end with a kind.
use Rattle.std.proofs.Common.{◌≡◌, ◌+◌, [], ◌∷◌, ◌++◌, sym, ◌∙◌, append_assoc}
use Rattle.std.proofs.lemmas.List.{same_from_push}
use Rattle.model.specs.declared.entry.Kind.{Kind}
use Rattle.model.specs.Entries.{kind_number}
use Rattle.model.specs.Packet.{Bytes}
use Rattle.words.specs.Arguments.{kind_text}

-- what stands before a kind is settled
pub front_same : (a b : Bytes) (j k : Kind) → a ++ kind_text j ≡ b ++ kind_text k → a ≡ b
front_same a b j k h =
    let p : (a ++ (58 ∷ [])) ++ ((48 + kind_number j) ∷ []) ≡ (b ++ (58 ∷ [])) ++ ((48 + kind_number k) ∷ []) = append_assoc a _ _ ∙ h ∙ sym (append_assoc b _ _) in
    (same_from_push a b 58 58 (same_from_push (a ++ (58 ∷ [])) (b ++ (58 ∷ [])) (48 + kind_number j) (48 + kind_number k) p).0).0
