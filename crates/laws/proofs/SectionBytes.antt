-- The bytes of a payload: what the reading of whole, begun and wrong sections comes to.
use Rattle.std.proofs.Common.{◌≡◌, ℕ, ◌+◌, ◌<◌, ◌≤◌, Bool, true, false, cond, ◌&&◌, eqb, leb, ◌⊎◌, List, [], ◌∷◌, ◌++◌, length, replicate, Some, None, sym, refl, ap, ◌∙◌, subst, inl, inr, zero-le, arith}
use Rattle.std.proofs.lemmas.Bool.{cases_Bool, cond-true, cond-false, and_parts, and_from, both_ways, eqb-true, eqb-false, eq-eqb, ne_eqb, le-leb, leb-true, cases_lt}
use Rattle.std.proofs.lemmas.List.{append-nil, append_assoc, length-append, get_or_append_left, length_push, nil_from_length}
use Rattle.model.specs.Packet.{Bytes, byte, bit}
use Rattle.model.specs.Crc.{crc32}
use Rattle.model.specs.Sections.{section_length, Reading, section, ended, filling, wrong, grown, Next, nothing, stuffing, more, reads, read_all, Phase, between, inside, settled, leading}
use Rattle.laws.proofs.SectionsLaw.{is_offended}
use Rattle.laws.specs.WholeSections.{Section, Begun, AllSections, none, also, end_to_end, Stuffing, Tail, Laid}

-- One byte more.

-- what a section is after its newest byte: begun, whole or wrong
data Grown (u : Bytes) (w : Reading) : Type 0 where
  still : w ≡ section u → Begun u → Grown u w
  whole : w ≡ ended → Section u → Grown u w
  bad : (r : ℕ) → w ≡ wrong r → Grown u w

byte_push : (u : Bytes) (b i : ℕ) → i < length u → byte (u ++ b ∷ []) i ≡ byte u i
byte_push u b i h = get_or_append_left u (b ∷ []) 0 i h

same_length : (u t : Bytes) → 3 ≤ length u → section_length (u ++ t) ≡ section_length u
same_length u t h =
    let e1 : byte (u ++ t) 1 ≡ byte u 1 = get_or_append_left u t 0 1 (omega arith) in
    let e2 : byte (u ++ t) 2 ≡ byte u 2 = get_or_append_left u t 0 2 (omega arith) in
    cc

one_more : (v : Bytes) (b : ℕ) → 1 ≤ length (v ++ b ∷ [])
one_more v b = omega (arith, length_push v b)

abbrev pub Open : Bytes → Type 0
Open u = (u ≡ []) ⊎ Begun u

grown_is : (u : Bytes) (b : ℕ) → Open u → Grown (u ++ b ∷ []) (grown (u ++ b ∷ []))
grown_is u b o =
    let w : Bytes = u ++ b ∷ [] in
    let n : ℕ = length w in
    let len : n ≡ length u + 1 = length_push u b in
    elim (cases_Bool (eqb n 1)) [
      | inl e1 ↦
          let l1 : n ≡ 1 = eqb-true n 1 e1 in
          let g1 : grown w ≡ cond (leb (byte w 0) 254) (section w) (wrong 28) = cond-true (eqb n 1) _ _ e1 in
          elim (cases_Bool (leb (byte w 0) 254)) [
            | inl t ↦ still (g1 ∙ cond-true (leb (byte w 0) 254) (section w) (wrong 28) t) (record
                { some = omega arith; table_id = leb-true (byte w 0) 254 t; syntax = λ h. absurd (omega arith); least = λ h. absurd (omega arith); most = λ h. absurd (omega arith); short = λ h. absurd (omega arith) })
            | inr t ↦ bad 28 (g1 ∙ cond-false (leb (byte w 0) 254) (section w) (wrong 28) t)
          ]
      | inr e1 ↦
          let n1 : n ≡ 1 → ⊥ = eqb-false n 1 e1 in
          let u1 : 1 ≤ length u = elim (cases_lt 0 (length u)) [ inl z ↦ omega arith | inr z ↦ absurd (n1 (omega arith)) ] in
          let bu : Begun u = elim o [ inl z ↦ absurd (let y : length u ≡ 0 = ap length z in omega arith) | inr z ↦ z ] in
          let t0 : byte w 0 ≤ 254 = subst (λ y. y ≤ 254) (sym (byte_push u b 0 (omega arith))) bu.table_id in
          elim (cases_Bool (eqb n 2)) [
            | inl e2 ↦
                let l2 : n ≡ 2 = eqb-true n 2 e2 in
                let g2 : grown w ≡ cond (bit 7 (byte w 1)) (section w) (wrong 28) = cond-false (eqb n 1) _ _ e1 ∙ cond-true (eqb n 2) _ _ e2 in
                elim (cases_Bool (bit 7 (byte w 1))) [
                  | inl t ↦ still (g2 ∙ cond-true (bit 7 (byte w 1)) (section w) (wrong 28) t) (record
                      { some = omega arith; table_id = t0; syntax = λ h. t; least = λ h. absurd (omega arith); most = λ h. absurd (omega arith); short = λ h. absurd (omega arith) })
                  | inr t ↦ bad 28 (g2 ∙ cond-false (bit 7 (byte w 1)) (section w) (wrong 28) t)
                ]
            | inr e2 ↦
                let n2 : n ≡ 2 → ⊥ = eqb-false n 2 e2 in
                let u2 : 2 ≤ length u = elim (cases_lt 1 (length u)) [ inl z ↦ omega arith | inr z ↦ absurd (n2 (omega arith)) ] in
                let t1 : bit 7 (byte w 1) ≡ true = ap (bit 7) (byte_push u b 1 (omega arith)) ∙ bu.syntax u2 in
                elim (cases_Bool (eqb n 3)) [
                  | inl e3 ↦
                      let l3 : n ≡ 3 = eqb-true n 3 e3 in
                      let f : Bool = leb 9 (section_length w) && leb (section_length w) 1021 in
                      let g3 : grown w ≡ cond f (section w) (wrong 28) = cond-false (eqb n 1) _ _ e1 ∙ cond-false (eqb n 2) _ _ e2 ∙ cond-true (eqb n 3) _ _ e3 in
                      elim (cases_Bool f) [
                        | inl t ↦
                            let m = and_parts (leb 9 (section_length w)) (leb (section_length w) 1021) t in
                            let lo : 9 ≤ section_length w = leb-true 9 (section_length w) m.0 in
                            still (g3 ∙ cond-true f (section w) (wrong 28) t) (record
                            { some = omega arith; table_id = t0; syntax = λ h. t1; least = λ h. lo; most = λ h. leb-true (section_length w) 1021 m.1; short = λ h. omega arith })
                        | inr t ↦ bad 28 (g3 ∙ cond-false f (section w) (wrong 28) t)
                      ]
                  | inr e3 ↦
                      let n3 : n ≡ 3 → ⊥ = eqb-false n 3 e3 in
                      let u3 : 3 ≤ length u = elim (cases_lt 2 (length u)) [ inl z ↦ omega arith | inr z ↦ absurd (n3 (omega arith)) ] in
                      let sl : section_length w ≡ section_length u = same_length u (b ∷ []) u3 in
                      let lo : 9 ≤ section_length w = subst (λ y. 9 ≤ y) (sym sl) (bu.least u3) in
                      let hi : section_length w ≤ 1021 = subst (λ y. y ≤ 1021) (sym sl) (bu.most u3) in
                      let sh : length u < 3 + section_length w = subst (λ y. length u < 3 + y) (sym sl) (bu.short u3) in
                      let g4 : grown w ≡ cond (eqb n (3 + section_length w)) (cond (eqb (crc32 w) 0) ended (wrong 29)) (section w) =
                      cond-false (eqb n 1) _ _ e1 ∙ cond-false (eqb n 2) _ _ e2 ∙ cond-false (eqb n 3) _ _ e3 in
                      elim (cases_Bool (eqb n (3 + section_length w))) [
                        | inl e4 ↦
                            let g5 : grown w ≡ cond (eqb (crc32 w) 0) ended (wrong 29) = g4 ∙ cond-true (eqb n (3 + section_length w)) _ _ e4 in
                            elim (cases_Bool (eqb (crc32 w) 0)) [
                              | inl t ↦ whole (g5 ∙ cond-true (eqb (crc32 w) 0) ended (wrong 29) t) (record
                                  { table_id = t0; syntax = t1; least = lo; most = hi; long = eqb-true n (3 + section_length w) e4; crc = eqb-true (crc32 w) 0 t })
                              | inr t ↦ bad 29 (g5 ∙ cond-false (eqb (crc32 w) 0) ended (wrong 29) t)
                            ]
                        | inr e4 ↦
                            let n4 : n ≡ 3 + section_length w → ⊥ = eqb-false n (3 + section_length w) e4 in
                            still (g4 ∙ cond-false (eqb n (3 + section_length w)) _ _ e4) (record {
                              some = omega arith;
                              table_id = t0;
                              syntax = λ h. t1;
                              least = λ h. lo;
                              most = λ h. hi;
                              short = λ h. elim (cases_lt n (3 + section_length w)) [ inl z ↦ z | inr z ↦ absurd (n4 (omega arith)) ];
                            })
                      ]
                ]
          ]
    ]

-- All bytes of a payload.

abbrev pub Good : Phase → Type 0
Good ph = is_offended ph ≡ false

wrong_still : (n : Next) (bs : Bytes) (r : ℕ) → read_all n (wrong r) bs ≡ wrong r
wrong_still n [] r = refl
wrong_still n (b ∷ bs) r = wrong_still n bs r

never_wrong : (n : Next) (bs : Bytes) (r : ℕ) (w : Reading) → w ≡ wrong r → Good (settled (read_all n w bs)) → ⊥
never_wrong n bs r w e h =
    both_ways true (sym (ap (λ y. is_offended (settled y)) (ap (λ y. read_all n y bs) e ∙ wrong_still n bs r)) ∙ h) refl

filled : (n : Next) (bs : Bytes) → Good (settled (read_all n filling bs)) → Stuffing bs × (settled (read_all n filling bs) ≡ between)
filled n [] h = (refl, refl)
filled n (b ∷ bs) h = elim (cases_Bool (eqb b 255)) [
  | inl e ↦
      let c : reads n filling b ≡ filling = cond-true (eqb b 255) filling (wrong 28) e in
      let d : settled (read_all n (reads n filling b) bs) ≡ settled (read_all n filling bs) = ap (λ y. settled (read_all n y bs)) c in
      let ih = filled n bs (ap is_offended (sym d) ∙ h) in
      (ap (λ y. y ∷ bs) (eqb-true b 255 e) ∙ ap (λ y. 255 ∷ y) ih.0, d ∙ ih.1)
  | inr e ↦ absurd (never_wrong n bs 28 (reads n filling b) (cond-false (eqb b 255) filling (wrong 28) e) h)
]

stuffed : (bs : Bytes) → Good (settled (read_all stuffing ended bs)) → Stuffing bs × (settled (read_all stuffing ended bs) ≡ between)
stuffed [] h = (refl, refl)
stuffed (b ∷ bs) h = filled stuffing (b ∷ bs) h

-- the phase that a begun section, or none, leaves
abbrev pub standing : Bytes → Phase
standing [] = between
standing (b ∷ bs) = inside (b ∷ bs)

pub standing_begun : (v : Bytes) → Begun v → inside v ≡ standing v
standing_begun [] g = absurd (let h : 1 ≤ 0 = g.some in omega arith)
standing_begun (b ∷ bs) g = refl

-- where another section may follow
pub record Found (bs : Bytes) (ph : Phase) (m : ℕ) : Type 0 where
  pub ss : List Bytes
  pub b : Bytes
  pub fill : Bytes
  pub some : m ≤ length (end_to_end ss ++ b)
  pub is : bs ≡ (end_to_end ss ++ b) ++ fill
  pub whole : AllSections ss
  pub tail : Tail b fill
  pub phase : ph ≡ standing b

abbrev Ahead : Bytes → Type 0
Ahead bs =
    ((v : Bytes) → Begun v → Good (settled (read_all more (section v) bs)) → Found (v ++ bs) (settled (read_all more (section v) bs)) 1)
    × (Good (settled (read_all more ended bs)) → Found bs (settled (read_all more ended bs)) 0)

after_grown : (w bs : Bytes) (g : Reading) → Ahead bs → Grown w g → Good (settled (read_all more g bs)) → Found (w ++ bs) (settled (read_all more g bs)) 1
after_grown w bs g a (still e k) h =
    subst (λ y. Found (w ++ bs) (settled (read_all more y bs)) 1) (sym e) (a.0 w k (subst (λ y. Good (settled (read_all more y bs))) e h))
after_grown w bs g a (whole e k) h =
    let f : Found bs (settled (read_all more ended bs)) 0 = a.1 (subst (λ y. Good (settled (read_all more y bs))) e h) in
    let l : 3 ≤ length w = let y : length w ≡ 3 + section_length w = k.long in omega arith in
    record {
      ss = w ∷ f.ss;
      b = f.b;
      fill = f.fill;
      some = simp length-append (omega arith);
      is = ap (λ y. w ++ y) f.is ∙ simp append_assoc;
      whole = also w f.ss k f.whole;
      tail = f.tail;
      phase = ap (λ y. settled (read_all more y bs)) e ∙ f.phase;
    }
after_grown w bs g a (bad r e) h = absurd (never_wrong more bs r g e h)

ahead : (bs : Bytes) → Ahead bs
ahead [] = (
  λ v k h. record { ss = []; b = v; fill = []; some = k.some; is = refl; whole = none; tail = inl (k, refl); phase = standing_begun v k },
  λ h. record { ss = []; b = []; fill = []; some = zero-le; is = refl; whole = none; tail = inr (refl, refl); phase = refl },
)
ahead (b ∷ bs) = (
  λ v k h. subst (λ y. Found y (settled (read_all more (grown (v ++ b ∷ [])) bs)) 1) (append_assoc v (b ∷ []) bs)
      (after_grown (v ++ b ∷ []) bs (grown (v ++ b ∷ [])) (ahead bs) (grown_is v b (inr k)) h),
  λ h. elim (cases_Bool (eqb b 255)) [
    | inl e ↦
        let c : settled (read_all more (reads more ended b) bs) ≡ settled (read_all more (reads more filling b) bs) =
        ap (λ y. settled (read_all more y bs)) (cond-true (eqb b 255) filling (grown (b ∷ [])) e ∙ sym (cond-true (eqb b 255) filling (wrong 28) e)) in
        let f = filled more (b ∷ bs) (ap is_offended (sym c) ∙ h) in
        record { ss = []; b = []; fill = b ∷ bs; some = zero-le; is = refl; whole = none; tail = inr (refl, f.0); phase = c ∙ f.1 }
    | inr e ↦
        let c : reads more ended b ≡ grown (b ∷ []) = cond-false (eqb b 255) filling (grown (b ∷ [])) e in
        let f : Found (b ∷ bs) (settled (read_all more (reads more ended b) bs)) 1 =
        subst (λ y. Found (b ∷ bs) (settled (read_all more y bs)) 1) (sym c)
        (after_grown (b ∷ []) bs (grown (b ∷ [])) (ahead bs) (grown_is [] b (inl refl)) (subst (λ y. Good (settled (read_all more y bs))) c h)) in
        record { ss = f.ss; b = f.b; fill = f.fill; some = zero-le; is = f.is; whole = f.whole; tail = f.tail; phase = f.phase }
  ],
)

pub from_start : (bs : Bytes) → 1 ≤ length bs → Good (settled (read_all more (section []) bs)) → Found bs (settled (read_all more (section []) bs)) 1
from_start [] l h = absurd (omega arith)
from_start (b ∷ bs) l h = after_grown (b ∷ []) bs (grown (b ∷ [])) (ahead bs) (grown_is [] b (inl refl)) h

-- where only stuffing may follow
pub data Went (v bs : Bytes) (ph : Phase) : Type 0 where
  still : Begun (v ++ bs) → ph ≡ inside (v ++ bs) → Went v bs ph
  shut : (body fill : Bytes) → bs ≡ body ++ fill → Section (v ++ body) → Stuffing fill → ph ≡ between → Went v bs ph

went_more : (v bs : Bytes) (b : ℕ) (ph : Phase) → Went (v ++ b ∷ []) bs ph → Went v (b ∷ bs) ph
went_more v bs b ph (still k e) = Went.still (subst Begun (append_assoc v (b ∷ []) bs) k) (e ∙ ap inside (append_assoc v (b ∷ []) bs))
went_more v bs b ph (shut body fill e k s p) = Went.shut (b ∷ body) fill (ap (λ y. b ∷ y) e) (subst Section (append_assoc v (b ∷ []) body) k) s p

pub going : (bs v : Bytes) → Begun v → Good (settled (read_all stuffing (section v) bs)) → Went v bs (settled (read_all stuffing (section v) bs))
going [] v k h = Went.still (subst Begun (sym (append-nil v)) k) (ap inside (sym (append-nil v)))
going (b ∷ bs) v k h = next (grown (v ++ b ∷ [])) (grown_is v b (inr k)) (going bs (v ++ b ∷ [])) h
  where
    next : (g : Reading) → Grown (v ++ b ∷ []) g →
        (Begun (v ++ b ∷ []) → Good (settled (read_all stuffing (section (v ++ b ∷ [])) bs)) → Went (v ++ b ∷ []) bs (settled (read_all stuffing (section (v ++ b ∷ [])) bs))) →
        Good (settled (read_all stuffing g bs)) → Went v (b ∷ bs) (settled (read_all stuffing g bs))
    next g (still e s) ih l = subst (λ y. Went v (b ∷ bs) (settled (read_all stuffing y bs))) (sym e)
        (went_more v bs b _ (ih s (subst (λ y. Good (settled (read_all stuffing y bs))) e l)))
    next g (whole e s) ih l =
        let f = stuffed bs (subst (λ y. Good (settled (read_all stuffing y bs))) e l) in
        Went.shut (b ∷ []) bs refl s f.0 (ap (λ y. settled (read_all stuffing y bs)) e ∙ f.1)
    next g (bad r e) ih l = absurd (never_wrong stuffing bs r g e l)

-- where nothing may follow
data Shut (v bs : Bytes) (w : Reading) : Type 0 where
  left : (u : Bytes) → w ≡ section u → Shut v bs w
  shut : w ≡ ended → Section (v ++ bs) → Shut v bs w
  bad : (r : ℕ) → w ≡ wrong r → Shut v bs w

shut_more : (v bs : Bytes) (b : ℕ) (w : Reading) → Shut (v ++ b ∷ []) bs w → Shut v (b ∷ bs) w
shut_more v bs b w (left u e) = Shut.left u e
shut_more v bs b w (shut e k) = Shut.shut e (subst Section (append_assoc v (b ∷ []) bs) k)
shut_more v bs b w (bad r e) = Shut.bad r e

shutting : (bs v : Bytes) → Begun v → Shut v bs (read_all nothing (section v) bs)
shutting [] v k = Shut.left v refl
shutting (b ∷ bs) v k = next (grown (v ++ b ∷ [])) bs (grown_is v b (inr k)) (shutting bs (v ++ b ∷ []))
  where
    next : (g : Reading) (cs : Bytes) → Grown (v ++ b ∷ []) g → (Begun (v ++ b ∷ []) → Shut (v ++ b ∷ []) cs (read_all nothing (section (v ++ b ∷ [])) cs)) → Shut v (b ∷ cs) (read_all nothing g cs)
    next g cs (still e s) ih = subst (λ y. Shut v (b ∷ cs) (read_all nothing y cs)) (sym e) (shut_more v cs b _ (ih s))
    next g [] (whole e s) ih = Shut.shut e s
    next g (c ∷ cs) (whole e s) ih = Shut.bad 28 (ap (λ y. read_all nothing (reads nothing y c) cs) e ∙ wrong_still nothing cs 28)
    next g cs (bad r e) ih = Shut.bad r (ap (λ y. read_all nothing y cs) e ∙ wrong_still nothing cs r)

pub closing : (v bs : Bytes) → Begun v → leading (inside v) bs ≡ None → Section (v ++ bs)
closing v bs k h = elim (shutting bs v k) [
  | left u e ↦ absurd (let y : Some 28 ≡ None = rw e at h in let z : ◌≡◌ {A = ℕ} 0 1 = cc in omega arith)
  | shut e s ↦ s
  | bad r e ↦ absurd (let y : Some r ≡ None = rw e at h in let z : ◌≡◌ {A = ℕ} 0 1 = cc in omega arith)
]

-- The other way: what is read of bytes that are laid so.

begun_prefix : (w t : Bytes) → 1 ≤ length w → Begun (w ++ t) → Begun w
begun_prefix w t l k =
    let m : length (w ++ t) ≡ length w + length t = length-append w t in
    record {
      some = l;
      table_id = subst (λ y. y ≤ 254) (at 0 (omega arith)) k.table_id;
      syntax = λ h. ap (bit 7) (sym (at 1 (omega arith))) ∙ k.syntax (omega arith);
      least = λ h. subst (λ y. 9 ≤ y) (same_length w t h) (k.least (omega arith));
      most = λ h. subst (λ y. y ≤ 1021) (same_length w t h) (k.most (omega arith));
      short = λ h. let y : length (w ++ t) < 3 + section_length w = subst (λ y. length (w ++ t) < 3 + y) (same_length w t h) (k.short (omega arith)) in omega arith;
    }
  where
    at : (i : ℕ) → i < length w → byte (w ++ t) i ≡ byte w i
    at i h = get_or_append_left w t 0 i h

section_prefix : (w t : Bytes) → 1 ≤ length w → 1 ≤ length t → Section (w ++ t) → Begun w
section_prefix w t l j k =
    let m : length (w ++ t) ≡ length w + length t = length-append w t in
    record {
      some = l;
      table_id = subst (λ y. y ≤ 254) (at 0 (omega arith)) k.table_id;
      syntax = λ h. ap (bit 7) (sym (at 1 (omega arith))) ∙ k.syntax;
      least = λ h. subst (λ y. 9 ≤ y) (same_length w t h) k.least;
      most = λ h. subst (λ y. y ≤ 1021) (same_length w t h) k.most;
      short = λ h. let y : length (w ++ t) ≡ 3 + section_length w = k.long ∙ ap (λ y. 3 + y) (same_length w t h) in omega arith;
    }
  where
    at : (i : ℕ) → i < length w → byte (w ++ t) i ≡ byte w i
    at i h = get_or_append_left w t 0 i h

grown_begun : (w : Bytes) → Begun w → grown w ≡ section w
grown_begun w k =
    let n : ℕ = length w in
    let s : 1 ≤ n = k.some in
    elim (cases_Bool (eqb n 1)) [
      | inl e1 ↦ cond-true (eqb n 1) _ _ e1 ∙ cond-true (leb (byte w 0) 254) (section w) (wrong 28) (le-leb (byte w 0) 254 k.table_id)
      | inr e1 ↦ cond-false (eqb n 1) _ _ e1 ∙ (
          let n1 : n ≡ 1 → ⊥ = eqb-false n 1 e1 in
          let l2 : 2 ≤ n = elim (cases_lt 1 n) [ inl z ↦ z | inr z ↦ absurd (n1 (omega arith)) ] in
          elim (cases_Bool (eqb n 2)) [
            | inl e2 ↦ cond-true (eqb n 2) _ _ e2 ∙ cond-true (bit 7 (byte w 1)) (section w) (wrong 28) (k.syntax l2)
            | inr e2 ↦ cond-false (eqb n 2) _ _ e2 ∙ (
                let n2 : n ≡ 2 → ⊥ = eqb-false n 2 e2 in
                let l3 : 3 ≤ n = elim (cases_lt 2 n) [ inl z ↦ z | inr z ↦ absurd (n2 (omega arith)) ] in
                elim (cases_Bool (eqb n 3)) [
                  | inl e3 ↦ cond-true (eqb n 3) _ _ e3 ∙ cond-true (leb 9 (section_length w) && leb (section_length w) 1021) (section w) (wrong 28)
                      (and_from (leb 9 (section_length w)) (leb (section_length w) 1021) (le-leb 9 (section_length w) (k.least l3)) (le-leb (section_length w) 1021 (k.most l3)))
                  | inr e3 ↦ cond-false (eqb n 3) _ _ e3 ∙ cond-false (eqb n (3 + section_length w)) _ (section w)
                      (ne_eqb n (3 + section_length w) (λ z. let y : n < 3 + section_length w = k.short l3 in omega arith))
                ])
          ])
    ]

grown_section : (w : Bytes) → Section w → grown w ≡ ended
grown_section w k =
    let n : ℕ = length w in
    let l : n ≡ 3 + section_length w = k.long in
    let m : 9 ≤ section_length w = k.least in
    cond-false (eqb n 1) _ _ (ne_eqb n 1 (λ z. omega arith))
    ∙ cond-false (eqb n 2) _ _ (ne_eqb n 2 (λ z. omega arith))
    ∙ cond-false (eqb n 3) _ _ (ne_eqb n 3 (λ z. omega arith))
    ∙ cond-true (eqb n (3 + section_length w)) _ (section w) (eq-eqb n (3 + section_length w) l)
    ∙ cond-true (eqb (crc32 w) 0) ended (wrong 29) (eq-eqb (crc32 w) 0 k.crc)

pub read_begun : (n : Next) (u v : Bytes) → Begun (v ++ u) → read_all n (section v) u ≡ section (v ++ u)
read_begun n [] v k = ap section (sym (append-nil v))
read_begun n (b ∷ u) v k =
    let a : (v ++ b ∷ []) ++ u ≡ v ++ b ∷ u = append_assoc v (b ∷ []) u in
    let g : Begun ((v ++ b ∷ []) ++ u) = subst Begun (sym a) k in
    ap (λ y. read_all n y u) (grown_begun (v ++ b ∷ []) (begun_prefix (v ++ b ∷ []) u (one_more v b) g)) ∙ read_begun n u (v ++ b ∷ []) g ∙ ap section a

pub read_section : (n : Next) (u v : Bytes) → 1 ≤ length u → Section (v ++ u) → read_all n (section v) u ≡ ended
read_section n [] v l k = absurd (omega arith)
read_section n (b ∷ []) v l k = grown_section (v ++ b ∷ []) k
read_section n (b ∷ c ∷ u) v l k =
    let a : (v ++ b ∷ []) ++ c ∷ u ≡ v ++ b ∷ c ∷ u = append_assoc v (b ∷ []) (c ∷ u) in
    let g : Section ((v ++ b ∷ []) ++ c ∷ u) = subst Section (sym a) k in
    let j : 1 ≤ length (c ∷ u) = omega arith in
    ap (λ y. read_all n y (c ∷ u)) (grown_begun (v ++ b ∷ []) (section_prefix (v ++ b ∷ []) (c ∷ u) (one_more v b) j g)) ∙ read_section n (c ∷ u) (v ++ b ∷ []) j g

pub read_append : (n : Next) (w : Reading) (a b : Bytes) → read_all n w (a ++ b) ≡ read_all n (read_all n w a) b
read_append n w [] b = refl
read_append n w (x ∷ a) b = read_append n (reads n w x) a b

read_filling : (n : Next) (bs : Bytes) → Stuffing bs → read_all n filling bs ≡ filling
read_filling n [] s = refl
read_filling n (b ∷ bs) s =
    let h : b ≡ 255 = cc in
    let t : bs ≡ replicate (length bs) 255 = cc in
    ap (λ y. read_all n y bs) (cond-true (eqb b 255) filling (wrong 28) (eq-eqb b 255 h)) ∙ read_filling n bs t

pub read_stuffing : (bs : Bytes) → Stuffing bs → settled (read_all stuffing ended bs) ≡ between
read_stuffing [] s = refl
read_stuffing (b ∷ bs) s = ap settled (read_filling stuffing (b ∷ bs) s)

read_fill : (bs : Bytes) → Stuffing bs → settled (read_all more ended bs) ≡ between
read_fill [] s = refl
read_fill (b ∷ bs) s =
    let h : b ≡ 255 = cc in
    let t : bs ≡ replicate (length bs) 255 = cc in
    ap settled (ap (λ y. read_all more y bs) (cond-true (eqb b 255) filling (grown (b ∷ [])) (eq-eqb b 255 h)) ∙ read_filling more bs t)

-- after an end, a byte that is not 255 starts a section
read_new : (u : Bytes) → 1 ≤ length u → byte u 0 ≤ 254 → read_all more ended u ≡ read_all more (section []) u
read_new [] l h = absurd (omega arith)
read_new (b ∷ u) l h = ap (λ y. read_all more y u) (cond-false (eqb b 255) filling (grown (b ∷ [])) (ne_eqb b 255 (λ z. let y : b ≤ 254 = h in omega arith)))

new_section : (s rest : Bytes) → Section s → read_all more ended (s ++ rest) ≡ read_all more ended rest
new_section s rest k =
    let l : 1 ≤ length s = let y : length s ≡ 3 + section_length s = k.long in omega arith in
    read_append more ended s rest ∙ ap (λ y. read_all more y rest) (read_new s l k.table_id ∙ read_section more s [] l k)

read_laid : (ss : List Bytes) (b fill : Bytes) → AllSections ss → Tail b fill → settled (read_all more ended ((end_to_end ss ++ b) ++ fill)) ≡ standing b
read_laid [] b fill a (inl t) =
    ap (λ y. settled (read_all more ended y)) (ap (λ y. b ++ y) t.1 ∙ append-nil b)
    ∙ ap settled (read_new b t.0.some t.0.table_id ∙ read_begun more b [] t.0) ∙ standing_begun b t.0
read_laid [] b fill a (inr t) = ap (λ y. settled (read_all more ended (y ++ fill))) t.0 ∙ read_fill fill t.1 ∙ ap standing (sym t.0)
read_laid (s ∷ ss) b fill (also _ _ k a) t =
    let e : ((s ++ end_to_end ss) ++ b) ++ fill ≡ s ++ ((end_to_end ss ++ b) ++ fill) = simp append_assoc in
    ap (λ y. settled (read_all more ended y)) e ∙ ap settled (new_section s ((end_to_end ss ++ b) ++ fill) k) ∙ read_laid ss b fill a t

first_byte : (ss : List Bytes) (b fill : Bytes) → 1 ≤ length (end_to_end ss ++ b) → AllSections ss → Tail b fill → byte (end_to_end ss ++ b) 0 ≤ 254
first_byte [] b fill l a (inl t) = t.0.table_id
first_byte [] b fill l a (inr t) = absurd (let y : length b ≡ 0 = ap length t.0 in omega arith)
first_byte (s ∷ ss) b fill l (also _ _ k a) t =
    let m : 1 ≤ length s = let y : length s ≡ 3 + section_length s = k.long in omega arith in
    let e : (s ++ end_to_end ss) ++ b ≡ s ++ (end_to_end ss ++ b) = append_assoc s (end_to_end ss) b in
    subst (λ y. byte y 0 ≤ 254) (sym e) (subst (λ y. y ≤ 254) (sym (get_or_append_left s (end_to_end ss ++ b) 0 0 (omega arith))) k.table_id)

pub read_start : (body fill : Bytes) (ss : List Bytes) (b : Bytes) → Laid body fill ss b → settled (read_all more (section []) (body ++ fill)) ≡ standing b
read_start body fill ss b d =
    let c : Bytes = end_to_end ss ++ b in
    let l : 1 ≤ length c = subst (λ y. 1 ≤ length y) d.is d.some in
    let h : byte (c ++ fill) 0 ≤ 254 = subst (λ y. y ≤ 254) (sym (get_or_append_left c fill 0 0 (omega arith))) (first_byte ss b fill l d.whole d.tail) in
    let m : 1 ≤ length (c ++ fill) = let y : length (c ++ fill) ≡ length c + length fill = length-append c fill in omega arith in
    ap (λ y. settled (read_all more (section []) (y ++ fill))) d.is ∙ ap settled (sym (read_new (c ++ fill) m h)) ∙ read_laid ss b fill d.whole d.tail

pub must_end : (v t : Bytes) → Begun v → Section (v ++ t) → 1 ≤ length t
must_end v t g k = elim (cases_lt 0 (length t)) [
  | inl z ↦ omega arith
  | inr z ↦ absurd (
      let e : v ++ t ≡ v = ap (λ y. v ++ y) (nil_from_length t (omega arith)) ∙ append-nil v in
      let s : Section v = subst Section e k in
      let l : length v ≡ 3 + section_length v = s.long in
      let m : length v < 3 + section_length v = g.short (omega arith) in
      omega arith)
]
