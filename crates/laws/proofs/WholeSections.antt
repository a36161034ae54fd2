-- Nothing is found on a PID exactly where its packets spell whole sections laid end to end.
use Rattle.std.proofs.Common.{◌≡◌, ℕ, zero, suc, ◌+◌, ◌<◌, ◌≤◌, true, false, leb, ◌⊎◌, List, [], ◌∷◌, ◌++◌, length, take, drop, Some, None, Option, sym, refl, ap, ◌∙◌, subst, inl, inr, arith}
use Rattle.std.proofs.lemmas.Bool.{cases_Bool, cond-true, cond-false, both_ways, lt-leb, leb-false, cases_lt}
use Rattle.std.proofs.lemmas.List.{append-nil, append_assoc, length-append, take-append-drop, length-take-le, length-drop, take_at, drop_at, drop-drop, same_from_push}
use Rattle.model.specs.declared.entry.Entry.{Entry}
use Rattle.model.specs.Packet.{Bytes, byte, pid, payload_unit_start, payload}
use Rattle.model.specs.Runs.{Packets, Placed, run, observed}
use Rattle.model.specs.Watches.{found}
use Rattle.model.specs.Sections.{section, ended, nothing, stuffing, more, read_all, Phase, unstarted, between, inside, offended, settled, leading, started, with_start, without_start, advance, carries, phase_from, offence, sections_finding}
use Rattle.laws.proofs.SectionsLaw.{is_offended, after, unoffended, placed, seen, phase_at, phase_seen, phase_unseen, found_seen, calm_before}
use Rattle.laws.proofs.SectionBytes.{Open, Good, standing, standing_begun, Found, from_start, Went, still, shut, going, closing, read_begun, read_section, read_append, read_stuffing, read_start, must_end}
use Rattle.laws.specs.WholeSections.{Section, Begun, AllSections, none, also, end_to_end, Tail, Laid, Closing, ends_open, none_open, Onward, goes_on, ends_there, Unstarted, nothing_yet, no_start, Spelt, first, start, onward, Ended, Pointed, Text, carried, SectionsWhole}

-- One packet more.

pointer_is : (u : Bytes) → 1 + byte u 0 < length u → u ≡ length (take (byte u 0) (drop 1 u)) ∷ (take (byte u 0) (drop 1 u) ++ drop (1 + byte u 0) u)
pointer_is [] h = absurd (let y : 1 + 0 < 0 = h in omega arith)
pointer_is (n ∷ r) h =
    let l : length (take n r) ≡ n = length-take-le n r (let y : 1 + n < length (n ∷ r) = h in omega arith) in
    let d : drop n r ≡ drop (1 + n) (n ∷ r) = drop-drop n 1 (n ∷ r) in
    let t : take n r ++ drop n r ≡ r = take-append-drop n r in
    ap (λ y. n ∷ y) (sym t ∙ ap (λ y. take n r ++ y) d) ∙ ap (λ y. y ∷ (take n r ++ drop (1 + n) (n ∷ r))) (sym l)

abbrev lead : Bytes → Bytes
lead u = take (byte u 0) (drop 1 u)

abbrev rest : Bytes → Bytes
rest u = drop (1 + byte u 0) u

-- a payload with the start flag and no offence: its parts, and what they may be
record Led (ph : Phase) (u : Bytes) : Type 0 where
  within : 1 + byte u 0 < length u
  led : leading ph (lead u) ≡ None
  new : with_start ph u ≡ settled (read_all more (section []) (rest u))

led_none : (o : Option ℕ) (bs : Bytes) → Good (started o bs) → (o ≡ None) × (started o bs ≡ settled (read_all more (section []) bs))
led_none None bs h = (refl, refl)
led_none (Some r) bs h = absurd (both_ways true h refl)

led_is : (ph : Phase) (u : Bytes) → Good (with_start ph u) → Led ph u
led_is ph u h = elim (cases_Bool (leb (length u) (1 + byte u 0))) [
  | inl e ↦ absurd (both_ways true (ap is_offended (sym (cond-true (leb (length u) (1 + byte u 0)) (offended 28) _ e)) ∙ h) refl)
  | inr e ↦
      let c : with_start ph u ≡ started (leading ph (lead u)) (rest u) = cond-false (leb (length u) (1 + byte u 0)) (offended 28) _ e in
      let d = led_none (leading ph (lead u)) (rest u) (ap is_offended (sym c) ∙ h) in
      record { within = leb-false (length u) (1 + byte u 0) e; led = d.0; new = c ∙ d.1 }
]

record New (ph : Phase) (u : Bytes) : Type 0 where
  body : Bytes
  fill : Bytes
  ss : List Bytes
  b : Bytes
  is : u ≡ length (lead u) ∷ (lead u ++ (body ++ fill))
  laid : Laid body fill ss b
  phase : ph ≡ standing b

new_is : (ph : Phase) (u : Bytes) → Good (with_start ph u) → New (with_start ph u) u
new_is ph u h =
    let l : Led ph u = led_is ph u h in
    let f : Found (rest u) (settled (read_all more (section []) (rest u))) 1 =
    from_start (rest u) (simp length-drop (let y : 1 + byte u 0 < length u = l.within in omega arith)) (ap is_offended (sym l.new) ∙ h) in
    record {
      body = end_to_end f.ss ++ f.b;
      fill = f.fill;
      ss = f.ss;
      b = f.b;
      is = pointer_is u l.within ∙ ap (λ y. length (lead u) ∷ (lead u ++ y)) f.is;
      laid = record { some = f.some; is = refl; whole = f.whole; tail = f.tail };
      phase = l.new ∙ f.phase;
    }

tail_open : (b fill : Bytes) → Tail b fill → Open b
tail_open b fill (inl h) = inr h.0
tail_open b fill (inr h) = inl h.0

all_append : (ss new : List Bytes) → AllSections ss → AllSections new → AllSections (ss ++ new)
all_append _ new none h = h
all_append _ new (also s ss k g) h = also s (ss ++ new) k (all_append ss new g h)

end_append : (ss new : List Bytes) → end_to_end (ss ++ new) ≡ end_to_end ss ++ end_to_end new
end_append [] new = refl
end_append (s ∷ ss) new = ap (λ y. s ++ y) (end_append ss new) ∙ simp append_assoc

closing_all : (v led : Bytes) (done : List Bytes) → Closing v led done → AllSections done × (end_to_end done ≡ v ++ led)
closing_all v led _ (ends_open k s) = (also (v ++ led) [] s none, append-nil (v ++ led))
closing_all v led _ (none_open e d) = (none, sym (ap (λ y. y ++ led) e ∙ d))

-- each start flag's pointer
abbrev Pointers : List Bytes → Type 0
Pointers ps = (earlier later : List Bytes) (p : Bytes) → ps ≡ earlier ++ p ∷ later → payload_unit_start p ≡ true → Pointed earlier p

data Last (ps : List Bytes) : Type 0 where
  empty : ps ≡ [] → Last ps
  push : (qs : List Bytes) (p : Bytes) → ps ≡ qs ++ p ∷ [] → Last ps

last : (ps : List Bytes) → Last ps
last [] = empty refl
last (p ∷ ps) = elim (last ps) [
  | empty e ↦ push [] p (ap (λ y. p ∷ y) e)
  | push qs q e ↦ push (p ∷ qs) q (ap (λ y. p ∷ y) e)
]

pointers_push : (ps : List Bytes) (p : Bytes) → Pointers ps → (payload_unit_start p ≡ true → Pointed ps p) → Pointers (ps ++ p ∷ [])
pointers_push ps p old new earlier later x e s = elim (last later) [
  | empty z ↦
      let k = same_from_push ps earlier p x (e ∙ ap (λ y. earlier ++ x ∷ y) z) in
      subst (λ y. Pointed y x) k.0 (subst (Pointed ps) k.1 (new (ap payload_unit_start k.1 ∙ s)))
  | push qs q z ↦
      let k = same_from_push ps (earlier ++ x ∷ qs) p q (e ∙ ap (λ y. earlier ++ x ∷ y) z ∙ sym (append_assoc earlier (x ∷ qs) (q ∷ []))) in
      old earlier qs x k.0 s
]

pointers_none : (ps : List Bytes) → Unstarted ps → Pointers ps
pointers_none _ nothing_yet = λ earlier later x e s. absurd (let z : ◌≡◌ {A = ℕ} 0 (length earlier + suc (length later)) = ap length e ∙ length-append earlier (x ∷ later) in omega arith)
pointers_none _ (no_start ps p u n) = pointers_push ps p (pointers_none ps u) (λ s. absurd (both_ways (payload_unit_start p) n s))

pointed : (ps : List Bytes) (p led body fill : Bytes) (ss : List Bytes) (b : Bytes) → payload p ≡ length led ∷ (led ++ (body ++ fill)) → Laid body fill ss b → Unstarted ps ⊎ Ended ps led → Pointed ps p
pointed ps p led body fill [] b e d h =
    record { lead = led; new = b; rest = fill; is = e ∙ ap (λ y. length led ∷ (led ++ (y ++ fill))) d.is; starts = inr (starts d.tail); past = h }
  where
    starts : Tail b fill → Begun b × (fill ≡ [])
    starts (inl t) = t
    starts (inr t) = absurd (let y : 1 ≤ length body = d.some in let z : length body ≡ 0 = ap length (d.is ∙ t.0) in omega arith)
pointed ps p led body fill (s ∷ ss) b e d h =
    record {
      lead = led;
      new = s;
      rest = (end_to_end ss ++ b) ++ fill;
      is = e ∙ ap (λ y. length led ∷ (led ++ y)) (ap (λ y. y ++ fill) d.is ∙ again);
      starts = inl (head d.whole);
      past = h;
    }
  where
    again : ((s ++ end_to_end ss) ++ b) ++ fill ≡ s ++ ((end_to_end ss ++ b) ++ fill)
    again = simp append_assoc

    head : AllSections (s ∷ ss) → Section s
    head (also _ _ k a) = k

-- what is known of the packets so far
data State (ps : List Bytes) (ph : Phase) : Type 0 where
  early : Unstarted ps → ph ≡ unstarted → State ps ph
  during : (t : Text ps) → ph ≡ standing t.begun → State ps ph

to_first : (ps : List Bytes) (p : Bytes) → Unstarted ps → payload_unit_start p ≡ true → Good (with_start unstarted (payload p)) → State (ps ++ p ∷ []) (with_start unstarted (payload p))
to_first ps p u s h =
    let n : New (with_start unstarted (payload p)) (payload p) = new_is unstarted (payload p) h in
    during (record {
      text = n.body;
      sections = n.ss;
      begun = n.b;
      spelt = first ps p (lead (payload p)) n.body n.fill n.ss n.b u s n.is n.laid;
      laid = n.laid.is;
      whole = n.laid.whole;
      rest = tail_open n.b n.fill n.laid.tail;
      pointers = pointers_push ps p (pointers_none ps u) (λ _. pointed ps p (lead (payload p)) n.body n.fill n.ss n.b n.is n.laid (inl u));
    }) n.phase

join : (a v l c b : Bytes) → (a ++ v) ++ (l ++ (c ++ b)) ≡ (a ++ ((v ++ l) ++ c)) ++ b
join a v l c b = simp append_assoc

to_start : (ps : List Bytes) (p : Bytes) (t : Text ps) (ph : Phase) → payload_unit_start p ≡ true → Good (with_start ph (payload p)) →
    (done : List Bytes) → Closing t.begun (lead (payload p)) done → State (ps ++ p ∷ []) (with_start ph (payload p))
to_start ps p t ph s h done c =
    let u : Bytes = payload p in
    let n : New (with_start ph u) u = new_is ph u h in
    let k : AllSections done × (end_to_end done ≡ t.begun ++ lead u) = closing_all t.begun (lead u) done c in
    let a : Bytes = end_to_end t.sections in
    let e1 : t.text ++ (lead u ++ n.body) ≡ (a ++ t.begun) ++ (lead u ++ (end_to_end n.ss ++ n.b)) =
    ap (λ y. y ++ (lead u ++ n.body)) t.laid ∙ ap (λ y. (a ++ t.begun) ++ (lead u ++ y)) n.laid.is in
    let e2 : (a ++ ((t.begun ++ lead u) ++ end_to_end n.ss)) ++ n.b ≡ (a ++ (end_to_end done ++ end_to_end n.ss)) ++ n.b =
    ap (λ y. (a ++ (y ++ end_to_end n.ss)) ++ n.b) (sym k.1) in
    let e3 : a ++ (end_to_end done ++ end_to_end n.ss) ≡ end_to_end (t.sections ++ (done ++ n.ss)) =
    ap (λ y. a ++ y) (sym (end_append done n.ss)) ∙ sym (end_append t.sections (done ++ n.ss)) in
    during (record {
      text = t.text ++ (lead u ++ n.body);
      sections = t.sections ++ (done ++ n.ss);
      begun = n.b;
      spelt = start ps p t.text (lead u) n.body n.fill t.sections done n.ss t.begun n.b t.spelt s n.is c n.laid;
      laid = e1 ∙ join a t.begun (lead u) (end_to_end n.ss) n.b ∙ e2 ∙ ap (λ y. y ++ n.b) e3;
      whole = all_append t.sections (done ++ n.ss) t.whole (all_append done n.ss k.0 n.laid.whole);
      rest = tail_open n.b n.fill n.laid.tail;
      pointers = pointers_push ps p t.pointers (λ _. pointed ps p (lead u) n.body n.fill n.ss n.b n.is n.laid (inr (record {
        text = t.text;
        sections = t.sections;
        begun = t.begun;
        spelt = t.spelt;
        ends = t.sections ++ done;
        whole = all_append t.sections done t.whole k.0;
        laid = ap (λ y. y ++ lead u) t.laid ∙ append_assoc a t.begun (lead u) ∙ ap (λ y. a ++ y) (sym k.1) ∙ sym (end_append t.sections done);
      })));
    }) n.phase

to_onward : (ps : List Bytes) (p : Bytes) (t : Text ps) (ph : Phase) → payload_unit_start p ≡ false → Begun t.begun → Went t.begun (payload p) ph → State (ps ++ p ∷ []) ph
to_onward ps p t ph s g (still k e) =
    let v : Bytes = t.begun in
    let u : Bytes = payload p in
    let a : Bytes = end_to_end t.sections in
    during (record {
      text = t.text ++ u;
      sections = t.sections ++ [];
      begun = v ++ u;
      spelt = onward ps p t.text u [] t.sections [] v (v ++ u) t.spelt s (sym (append-nil u)) (goes_on g k refl);
      laid = ap (λ y. y ++ u) t.laid ∙ append_assoc a v u ∙ ap (λ y. y ++ (v ++ u)) (sym (ap end_to_end (append-nil t.sections)));
      whole = all_append t.sections [] t.whole none;
      rest = inr k;
      pointers = pointers_push ps p t.pointers (λ y. absurd (both_ways (payload_unit_start p) s y));
    }) (e ∙ standing_begun (v ++ u) k)
to_onward ps p t ph s g (shut body fill i k f e) =
    let v : Bytes = t.begun in
    let a : Bytes = end_to_end t.sections in
    let e1 : a ++ ((v ++ body) ++ []) ≡ end_to_end (t.sections ++ (v ++ body) ∷ []) = sym (end_append t.sections ((v ++ body) ∷ [])) in
    during (record {
      text = t.text ++ body;
      sections = t.sections ++ (v ++ body) ∷ [];
      begun = [];
      spelt = onward ps p t.text body fill t.sections ((v ++ body) ∷ []) v [] t.spelt s i (ends_there g k f);
      laid = ap (λ y. y ++ body) t.laid ∙ append_assoc a v body ∙ ap (λ y. a ++ y) (sym (append-nil (v ++ body))) ∙ e1 ∙ sym (append-nil (end_to_end (t.sections ++ (v ++ body) ∷ [])));
      whole = all_append t.sections ((v ++ body) ∷ []) t.whole (also (v ++ body) [] k none);
      rest = inl refl;
      pointers = pointers_push ps p t.pointers (λ y. absurd (both_ways (payload_unit_start p) s y));
    }) e

between_none : (bs : Bytes) → leading between bs ≡ None → bs ≡ []
between_none [] h = refl
between_none (b ∷ bs) h = absurd (let z : ◌≡◌ {A = ℕ} 0 1 = cc in omega arith)

from_unstarted : (ps : List Bytes) (p : Bytes) → Unstarted ps → Good (advance unstarted p) → State (ps ++ p ∷ []) (advance unstarted p)
from_unstarted ps p u h = elim (cases_Bool (payload_unit_start p)) [
  | inl s ↦
      let c : advance unstarted p ≡ with_start unstarted (payload p) = cond-true (payload_unit_start p) _ unstarted s in
      subst (State (ps ++ p ∷ [])) (sym c) (to_first ps p u s (subst Good c h))
  | inr s ↦ early (no_start ps p u s) (cond-false (payload_unit_start p) (with_start unstarted (payload p)) unstarted s)
]

from_between : (ps : List Bytes) (p : Bytes) (t : Text ps) → t.begun ≡ [] → Good (advance between p) → State (ps ++ p ∷ []) (advance between p)
from_between ps p t z h = elim (cases_Bool (payload_unit_start p)) [
  | inl s ↦
      let c : advance between p ≡ with_start between (payload p) = cond-true (payload_unit_start p) _ (offended 28) s in
      let g : Good (with_start between (payload p)) = subst Good c h in
      subst (State (ps ++ p ∷ [])) (sym c) (to_start ps p t between s g [] (none_open z (between_none (lead (payload p)) (led_is between (payload p) g).led)))
  | inr s ↦ absurd (both_ways true (ap is_offended (sym (cond-false (payload_unit_start p) (with_start between (payload p)) (offended 28) s)) ∙ h) refl)
]

from_inside : (ps : List Bytes) (p : Bytes) (t : Text ps) → Begun t.begun → Good (advance (inside t.begun) p) → State (ps ++ p ∷ []) (advance (inside t.begun) p)
from_inside ps p t k h =
    let v : Bytes = t.begun in
    let u : Bytes = payload p in
    elim (cases_Bool (payload_unit_start p)) [
      | inl s ↦
          let c : advance (inside v) p ≡ with_start (inside v) u = cond-true (payload_unit_start p) _ (without_start (inside v) u) s in
          let g : Good (with_start (inside v) u) = subst Good c h in
          subst (State (ps ++ p ∷ [])) (sym c) (to_start ps p t (inside v) s g ((v ++ lead u) ∷ []) (ends_open k (closing v (lead u) k (led_is (inside v) u g).led)))
      | inr s ↦
          let c : advance (inside v) p ≡ without_start (inside v) u = cond-false (payload_unit_start p) (with_start (inside v) u) (without_start (inside v) u) s in
          subst (State (ps ++ p ∷ [])) (sym c) (to_onward ps p t (without_start (inside v) u) s k (going u v k (subst Good c h)))
    ]

advanced : (ps : List Bytes) (p : Bytes) (ph : Phase) → State ps ph → Good (advance ph p) → State (ps ++ p ∷ []) (advance ph p)
advanced ps p ph (early u e) h =
    let P : Phase → Type 0 = λ y. State (ps ++ p ∷ []) (advance y p) in
    subst P (sym e) (from_unstarted ps p u (subst (λ y. Good (advance y p)) e h))
advanced ps p ph (during t e) h =
    let P : Phase → Type 0 = λ y. State (ps ++ p ∷ []) (advance y p) in
    elim t.rest [
      | inl z ↦
          let c : ph ≡ between = e ∙ ap standing z in
          subst P (sym c) (from_between ps p t z (subst (λ y. Good (advance y p)) c h))
      | inr k ↦
          let c : ph ≡ inside t.begun = e ∙ sym (standing_begun t.begun k) in
          subst P (sym c) (from_inside ps p t k (subst (λ y. Good (advance y p)) c h))
    ]

-- A run.

module _ (es : List Entry) (q : ℕ) where
  walk : (xs : List Placed) (ps : List Bytes) (ph : Phase) → State ps ph → Good (phase_from es q ph xs) → State (ps ++ carried es q xs) (phase_from es q ph xs)
  walk [] ps ph s h = subst (λ y. State y ph) (sym (append-nil ps)) s
  walk (x ∷ xs) ps ph s h = elim (cases_Bool (carries es q x)) [
    | inl c ↦
        let p : Bytes = x.bytes in
        let a : after es q ph x ≡ advance ph p = cond-true (carries es q x) (advance ph p) ph c in
        let g : Good (advance ph p) = subst Good a (unoffended es q (after es q ph x) xs h) in
        let i : State ((ps ++ p ∷ []) ++ carried es q xs) (phase_from es q (advance ph p) xs) =
        walk xs (ps ++ p ∷ []) (advance ph p) (advanced ps p ph s g) (subst (λ y. Good (phase_from es q y xs)) a h) in
        let d : (ps ++ p ∷ []) ++ carried es q xs ≡ ps ++ carried es q (x ∷ xs) =
        append_assoc ps (p ∷ []) (carried es q xs) ∙ ap (λ y. ps ++ y) (sym (cond-true (carries es q x) (p ∷ carried es q xs) (carried es q xs) c)) in
        subst (λ y. State (ps ++ carried es q (x ∷ xs)) (phase_from es q y xs)) (sym a) (subst (λ y. State y (phase_from es q (advance ph p) xs)) d i)
    | inr c ↦
        let a : after es q ph x ≡ ph = cond-false (carries es q x) (advance ph x.bytes) ph c in
        let d : ps ++ carried es q xs ≡ ps ++ carried es q (x ∷ xs) = ap (λ y. ps ++ y) (sym (cond-false (carries es q x) (x.bytes ∷ carried es q xs) (carried es q xs) c)) in
        subst (λ y. State (ps ++ carried es q (x ∷ xs)) (phase_from es q y xs)) (sym a)
        (subst (λ y. State y (phase_from es q ph xs)) d (walk xs ps ph s (subst (λ y. Good (phase_from es q y xs)) a h)))
  ]

  known : (xs : List Placed) → Good (phase_from es q unstarted xs) → State (carried es q xs) (phase_from es q unstarted xs)
  known xs h = walk xs [] unstarted (early nothing_yet refl) h

-- The other way: what spells such a text has no offence.

led_closed : (v led : Bytes) (done : List Bytes) → Closing v led done → leading (standing v) led ≡ None
led_closed v led _ (ends_open g k) =
    let e : read_all nothing (section v) led ≡ ended = read_section nothing led v (must_end v led g k) k in
    let c : leading (inside v) led ≡ None = rw e in
    ap (λ y. leading y led) (sym (standing_begun v g)) ∙ c
led_closed v led _ (none_open e d) = ap (λ y. leading (standing y) led) e ∙ ap (leading between) d

with_laid : (ph : Phase) (u led body fill : Bytes) (ss : List Bytes) (b : Bytes) → u ≡ length led ∷ (led ++ (body ++ fill)) → leading ph led ≡ None → Laid body fill ss b →
    with_start ph u ≡ standing b
with_laid ph u led body fill ss b e h d = ap (with_start ph) e ∙ (
    let n : ℕ = length led in
    let x : Bytes = n ∷ (led ++ (body ++ fill)) in
    let l : 1 + n < length x = let y : length (led ++ (body ++ fill)) ≡ n + (length body + length fill) = simp length-append in let z : 1 ≤ length body = d.some in omega arith in
    let t : take n (led ++ (body ++ fill)) ≡ led = take_at led (body ++ fill) n refl in
    let r : drop (1 + n) x ≡ body ++ fill = sym (drop-drop n 1 x) ∙ drop_at led (body ++ fill) n refl in
    cond-false (leb (length x) (1 + n)) (offended 28) _ (lt-leb (length x) (1 + n) l)
    ∙ ap (λ y. started (leading ph y) (drop (1 + n) x)) t
    ∙ ap (λ y. started y (drop (1 + n) x)) h
    ∙ ap (λ y. settled (read_all more (section []) y)) r
    ∙ read_start body fill ss b d)

-- the phase after packets
abbrev phase_after : Phase → List Bytes → Phase
phase_after ph [] = ph
phase_after ph (p ∷ ps) = phase_after (advance ph p) ps

after_push : (ph : Phase) (ps : List Bytes) (p : Bytes) → phase_after ph (ps ++ p ∷ []) ≡ advance (phase_after ph ps) p
after_push ph [] p = refl
after_push ph (x ∷ ps) p = after_push (advance ph x) ps p

after_carried : (es : List Entry) (q : ℕ) (ph : Phase) (xs : List Placed) → phase_from es q ph xs ≡ phase_after ph (carried es q xs)
after_carried es q ph [] = refl
after_carried es q ph (x ∷ xs) = elim (cases_Bool (carries es q x)) [
  | inl c ↦
      ap (λ y. phase_from es q y xs) (cond-true (carries es q x) (advance ph x.bytes) ph c) ∙ after_carried es q (advance ph x.bytes) xs
      ∙ ap (phase_after ph) (sym (cond-true (carries es q x) (x.bytes ∷ carried es q xs) (carried es q xs) c))
  | inr c ↦
      ap (λ y. phase_from es q y xs) (cond-false (carries es q x) (advance ph x.bytes) ph c) ∙ after_carried es q ph xs
      ∙ ap (phase_after ph) (sym (cond-false (carries es q x) (x.bytes ∷ carried es q xs) (carried es q xs) c))
]

advance_with : (ph : Phase) (p : Bytes) → Good ph → payload_unit_start p ≡ true → advance ph p ≡ with_start ph (payload p)
advance_with unstarted p g s = cond-true (payload_unit_start p) _ unstarted s
advance_with between p g s = cond-true (payload_unit_start p) _ (offended 28) s
advance_with (inside v) p g s = cond-true (payload_unit_start p) _ (without_start (inside v) (payload p)) s
advance_with (offended r) p g s = absurd (both_ways true g refl)

good_standing : (b : Bytes) → Good (standing b)
good_standing [] = refl
good_standing (x ∷ b) = refl

after_onward : (v body fill : Bytes) (done : List Bytes) (b : Bytes) → Onward v body fill done b → without_start (standing v) (body ++ fill) ≡ standing b
after_onward v body fill _ _ (goes_on g k e) =
    ap (λ y. without_start y (body ++ fill)) (sym (standing_begun v g)) ∙ ap (without_start (inside v)) (ap (λ y. body ++ y) e ∙ append-nil body)
    ∙ ap settled (read_begun stuffing body v k) ∙ standing_begun (v ++ body) k
after_onward v body fill _ _ (ends_there g k f) =
    ap (λ y. without_start y (body ++ fill)) (sym (standing_begun v g)) ∙ ap settled (read_append stuffing (section v) body fill)
    ∙ ap (λ y. settled (read_all stuffing y fill)) (read_section stuffing body v (must_end v body g k) k) ∙ read_stuffing fill f

advance_without : (b p : Bytes) → payload_unit_start p ≡ false → advance (standing b) p ≡ without_start (standing b) (payload p)
advance_without [] p s = cond-false (payload_unit_start p) (with_start between (payload p)) _ s
advance_without (x ∷ b) p s = cond-false (payload_unit_start p) (with_start (inside (x ∷ b)) (payload p)) _ s

after_unstarted : (ps : List Bytes) → Unstarted ps → phase_after unstarted ps ≡ unstarted
after_unstarted _ nothing_yet = refl
after_unstarted _ (no_start ps p u s) =
    after_push unstarted ps p ∙ ap (λ y. advance y p) (after_unstarted ps u) ∙ cond-false (payload_unit_start p) (with_start unstarted (payload p)) unstarted s

after_spelt : (ps : List Bytes) (text : Bytes) (ss : List Bytes) (b : Bytes) → Spelt ps text ss b → phase_after unstarted ps ≡ standing b
after_spelt _ _ _ _ (first ps p skipped body fill ss b u s e d) =
    after_push unstarted ps p ∙ ap (λ y. advance y p) (after_unstarted ps u) ∙ advance_with unstarted p refl s
    ∙ with_laid unstarted (payload p) skipped body fill ss b e refl d
after_spelt _ _ _ _ (start ps p text led body fill ss done new v b t s e c d) =
    after_push unstarted ps p ∙ ap (λ y. advance y p) (after_spelt ps text ss v t) ∙ advance_with (standing v) p (good_standing v) s
    ∙ with_laid (standing v) (payload p) led body fill new b e (led_closed v led done c) d
after_spelt _ _ _ _ (onward ps p text body fill ss done v b t s e o) =
    after_push unstarted ps p ∙ ap (λ y. advance y p) (after_spelt ps text ss v t) ∙ advance_without v p s
    ∙ ap (without_start (standing v)) e ∙ after_onward v body fill done b o

-- Over a run.

offence_good : (a b : Phase) → Good b → offence a b ≡ None
offence_good (offended r) b h = refl
offence_good unstarted unstarted h = refl
offence_good unstarted between h = refl
offence_good unstarted (inside u) h = refl
offence_good unstarted (offended r) h = absurd (both_ways true h refl)
offence_good between unstarted h = refl
offence_good between between h = refl
offence_good between (inside u) h = refl
offence_good between (offended r) h = absurd (both_ways true h refl)
offence_good (inside v) unstarted h = refl
offence_good (inside v) between h = refl
offence_good (inside v) (inside u) h = refl
offence_good (inside v) (offended r) h = absurd (both_ways true h refl)

module _ (es : List Entry) (T : ℕ) (ps : Packets) (q : ℕ) where
  abbrev phase : ℕ → Phase
  phase = phase_at es T ps q

  abbrev cs : ℕ → List Bytes
  cs n = carried es q (observed es T ps n)

  good_step : (k : ℕ) → Good (phase (suc k)) → Good (phase k)
  good_step k h = elim (cases_Bool (seen es T ps q k)) [
    | inl t ↦ unoffended es q (phase k) (placed es T ps q k ∷ []) (ap is_offended (sym (phase_seen es T ps q k t)) ∙ h)
    | inr t ↦ ap is_offended (sym (phase_unseen es T ps q k t)) ∙ h
  ]

  good_before : (n k : ℕ) → k ≤ n → Good (phase n) → Good (phase k)
  good_before zero k h g = let e : k ≡ 0 = omega arith in subst (λ y. Good (phase y)) (sym e) g
  good_before (suc n) k h g = elim (cases_lt k (suc n)) [
    | inl z ↦ good_before n k (omega arith) (good_step n g)
    | inr z ↦ let e : k ≡ suc n = omega arith in subst (λ y. Good (phase y)) (sym e) g
  ]

  quiet_from : (n : ℕ) → Good (phase n) → (k : ℕ) → k < n → pid (run es T ps k) ≡ q → found es T (sections_finding es) ps k ≡ None
  quiet_from n g k h e =
      let p : Bytes = run es T ps k in
      let x : Placed = placed es T ps q k in
      elim (cases_Bool (seen es T ps q k)) [
        | inl t ↦ found_seen es T ps q k t e ∙ (elim (cases_Bool (carries es q x)) [
          | inl c ↦
              let a : phase (suc k) ≡ advance (phase k) p = phase_seen es T ps q k t ∙ cond-true (carries es q x) _ (phase k) c in
              cond-true (carries es q x) _ None c ∙ offence_good (phase k) (advance (phase k) p) (ap is_offended (sym a) ∙ good_before n (suc k) h g)
          | inr c ↦ cond-false (carries es q x) _ None c
        ])
        | inr t ↦ cond-false (seen es T ps q k) _ None t
      ]

  good_from : (n : ℕ) → Unstarted (cs n) ⊎ Text (cs n) → Good (phase n)
  good_from n (inl u) = ap is_offended (after_carried es q unstarted (observed es T ps n) ∙ after_unstarted (cs n) u)
  good_from n (inr t) = ap is_offended (after_carried es q unstarted (observed es T ps n) ∙ after_spelt (cs n) t.text t.sections t.begun t.spelt) ∙ good_standing t.begun

  either : (n : ℕ) → State (cs n) (phase n) → Unstarted (cs n) ⊎ Text (cs n)
  either n (early u e) = inl u
  either n (during t e) = inr t

pub sections_whole : SectionsWhole
sections_whole es T ps q n = (
  λ quiet. either es T ps q n (known es q (observed es T ps n) (calm_before es T ps q n quiet n (omega arith))),
  λ h. quiet_from es T ps q n (good_from es T ps q n h),
)
