-- The bytes that fill the rest of a payload, and those that are wrong.
use Rattle.std.proofs.Common.{◌≡◌, ℕ, ◌≤◌, cond, ◌&&◌, eqb, [], ◌∷◌, ◌++◌, length, get_or, take, drop, take-append-drop, sym, refl, ap, ◌∙◌, inl, inr, arith}
use Rattle.std.proofs.lemmas.Bool.{cases_Bool, cond-true, cond-false}
use Rattle.model.specs.Packet.{Bytes}
use Rattle.model.specs.Sections.{Next, read_all, after_end, grown, section, ended, filling, wrong}
use Rattle.laws.proofs.SectionBytes.{read_append}
use Rattle.model.specs.Tests.{all255}

pub stays_wrong : (n : Next) (r : ℕ) (bs : Bytes) → read_all n (wrong r) bs ≡ wrong r
stays_wrong n r [] = refl
stays_wrong n r (b ∷ bs) = stays_wrong n r bs

-- a wrong byte among those that a section at u is given
pub wrong_first : (u bs : Bytes) (r : ℕ) → 1 ≤ length bs → wrong r ≡ grown (u ++ get_or bs 0 0 ∷ []) → (n : Next) → wrong r ≡ read_all n (section u) bs
wrong_first u [] r l h n = absurd (omega arith)
wrong_first u (b ∷ bs) r l h n = sym (ap (λ w. read_all n w bs) (sym h) ∙ stays_wrong n r bs)

pub wrong_among : (u bs : Bytes) (k r : ℕ) → ((n : Next) → wrong r ≡ read_all n (section u) (take k bs)) → (n : Next) → wrong r ≡ read_all n (section u) bs
wrong_among u bs k r h n = sym (ap (read_all n (section u)) (sym (take-append-drop k bs)) ∙ read_append n (section u) (take k bs) (drop k bs) ∙ ap (λ w. read_all n w (drop k bs)) (sym (h n)) ∙ stays_wrong n r (drop k bs))

-- a wrong byte past a section's end
pub wrong_next : (n : Next) (bs : Bytes) (r : ℕ) → 1 ≤ length bs → wrong r ≡ after_end n (get_or bs 0 0) → wrong r ≡ read_all n ended bs
wrong_next n [] r l h = absurd (omega arith)
wrong_next n (b ∷ bs) r l h = sym (ap (λ w. read_all n w bs) (sym h) ∙ stays_wrong n r bs)

pub fills : (n : Next) (bs : Bytes) → read_all n filling bs ≡ cond (all255 bs) filling (wrong 28)
fills n [] = refl
fills n (b ∷ bs) = elim (cases_Bool (eqb b 255)) [
  | inl h ↦ ap (λ w. read_all n w bs) (cond-true (eqb b 255) filling (wrong 28) h) ∙ fills n bs ∙ ap (λ t. cond (t && all255 bs) filling (wrong 28)) (sym h)
  | inr h ↦ ap (λ w. read_all n w bs) (cond-false (eqb b 255) filling (wrong 28) h) ∙ stays_wrong n 28 bs ∙ ap (λ t. cond (t && all255 bs) filling (wrong 28)) (sym h)
]
