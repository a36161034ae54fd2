-- What a sound packet tells.
use Rattle.std.proofs.Common.{◌≡◌, ℕ, zero, suc, ◌<◌, ◌≤◌, Bool, true, false, cond, not, ◌&&◌, ◌||◌, eqb, ltb, List, [], ◌∷◌, get_or, Some, None, Option, sym, refl, inl, inr, arith}
use Rattle.std.proofs.lemmas.Bool.{cases_Bool, or_parts, and_parts, both_ways, not-false, ltb-false, eqb-true}
use Rattle.model.specs.declared.entry.Entry.{Entry}
use Rattle.model.specs.Entries.{kind_of, listed}
use Rattle.model.specs.Packet.{Bytes, has_sync_byte, has_payload, has_adaptation_field, pid, is_null, adaptation_field_length, has_pcr, pcr_extension, payload_place}
use Rattle.model.specs.Form.{form, sound, bad_header, adaptation_field_faults, bad_adaptation_field, bad_clock}
use Rattle.model.specs.Tests.{all_of, any_of, is_none}

pub is_none_lem : (o : Option ℕ) → is_none o ≡ true → o ≡ None
is_none_lem None h = refl
is_none_lem (Some x) h = absurd (both_ways true (sym h) refl)

some_none : (r : ℕ) → Some r ≡ None → ⊥
some_none r h = let z : ◌≡◌ {A = ℕ} 0 1 = cc in omega arith

cond_none : (b : Bool) (r : ℕ) (o : Option ℕ) → cond b (Some r) o ≡ None → (b ≡ false) × (o ≡ None)
cond_none true r o h = absurd (some_none r h)
cond_none false r o h = (refl, h)

pub and_true : (a b : Bool) → a ≡ true → (a && b) ≡ false → b ≡ false
and_true true b h k = k
and_true false b h k = absurd (both_ways false refl h)

pub all_at : (bs : List Bool) → all_of bs ≡ true → (i : ℕ) → get_or bs i true ≡ true
all_at [] h i = refl
all_at (b ∷ bs) h zero = (and_parts b (all_of bs) h).0
all_at (b ∷ bs) h (suc i) = all_at bs (and_parts b (all_of bs) h).1 i

pub any_at : (bs : List Bool) → any_of bs ≡ false → (i : ℕ) → get_or bs i false ≡ false
any_at [] h i = refl
any_at (b ∷ bs) h zero = (or_parts b (any_of bs) h).0
any_at (b ∷ bs) h (suc i) = any_at bs (or_parts b (any_of bs) h).1 i

module _ (es : List Entry) (p : Bytes) (s : sound es p ≡ true) where
  form_none : form es p ≡ None
  form_none = is_none_lem (form es p) s

  fields_fine : bad_adaptation_field p ≡ false
  fields_fine =
      (cond_none (bad_adaptation_field p) 23 _ (cond_none (not (listed (kind_of es (pid p)) || is_null p)) 22 _ (cond_none (bad_header p) 21 _ (cond_none (not (has_sync_byte p)) 20 _ form_none).1).1).1).0

  clock_fine : bad_clock es p ≡ false
  clock_fine =
      (cond_none (bad_clock es p) 24 _ (cond_none (bad_adaptation_field p) 23 _ (cond_none (not (listed (kind_of es (pid p)) || is_null p)) 22 _ (cond_none (bad_header p) 21 _ (cond_none (not (has_sync_byte p)) 20 _ form_none).1).1).1).1).0

  -- the adaptation field ends within the packet
  length_fine : has_adaptation_field p ≡ true → adaptation_field_length p ≤ 183
  length_fine f =
      let b : (has_adaptation_field p && cond (has_payload p) (ltb 182 (adaptation_field_length p)) (not (eqb (adaptation_field_length p) 183))) ≡ false = any_at (adaptation_field_faults p) fields_fine 2 in
      let a : cond (has_payload p) (ltb 182 (adaptation_field_length p)) (not (eqb (adaptation_field_length p) 183)) ≡ false = and_true (has_adaptation_field p) _ f b in
      elim (cases_Bool (has_payload p)) [
        | inl y ↦ let z : ltb 182 (adaptation_field_length p) ≡ false = rw y at a in omega (arith, ltb-false 182 (adaptation_field_length p) z)
        | inr y ↦ let z : not (eqb (adaptation_field_length p) 183) ≡ false = rw y at a in omega (arith, eqb-true (adaptation_field_length p) 183 (not-false _ z))
      ]

  pub place_low : 4 ≤ payload_place p
  place_low = elim (cases_Bool (has_adaptation_field p)) [ inl f ↦ rw f (omega arith) | inr f ↦ rw f (omega arith) ]

  pub place_high : payload_place p ≤ 188
  place_high = elim (cases_Bool (has_adaptation_field p)) [ inl f ↦ let h = length_fine f in rw f (omega arith) | inr f ↦ rw f (omega arith) ]

  pub clock_place : has_pcr p ≡ true → 12 ≤ payload_place p
  clock_place k =
      let d : (has_pcr p && ltb (adaptation_field_length p) 7) ≡ false = any_at (adaptation_field_faults p) fields_fine 8 in
      let h = ltb-false (adaptation_field_length p) 7 (and_true (has_pcr p) _ k d) in
      elim (cases_Bool (has_adaptation_field p)) [
        | inl f ↦ rw f (omega arith)
        | inr f ↦ let z : false ≡ true = rw f at k in absurd (both_ways false refl z)
      ]

  pub clock_extension : has_pcr p ≡ true → pcr_extension p < 300
  clock_extension k = omega (arith, ltb-false 299 (pcr_extension p) (or_parts _ _ (and_true (has_pcr p) _ k clock_fine)).1)

  pub sound_listed : is_null p ≡ false → listed (kind_of es (pid p)) ≡ true
  sound_listed h =
      let e : not (listed (kind_of es (pid p)) || is_null p) ≡ false = (cond_none (not (listed (kind_of es (pid p)) || is_null p)) 22 _ (cond_none (bad_header p) 21 _ (cond_none (not (has_sync_byte p)) 20 _ form_none).1).1).0 in
      or_false (listed (kind_of es (pid p))) (is_null p) h (not-false _ e)
    where
      or_false : (a b : Bool) → b ≡ false → (a || b) ≡ true → a ≡ true
      or_false true b h k = refl
      or_false false b h k = absurd (both_ways b h k)
