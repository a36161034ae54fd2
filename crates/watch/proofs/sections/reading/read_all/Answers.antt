use Rattle.std.proofs.Common.{◌≡◌, ℕ, Ok, Err, take, drop, sym, ap, ◌∙◌, take-append-drop, rules}
use Rattle.std.proofs.lemmas.List.{take_rest}
use Rattle.model.specs.Packet.{Bytes}
use Rattle.model.specs.Rules.{rule_number}
use Rattle.model.specs.Sections.{Next, Reading, read_all, section}
use Rattle.laws.proofs.SectionBytes.{read_append}
use Rattle.watch.specs.Readings.{reading_of, next_of}
use Rattle.watch.specs.Assembled.{bytes_of}
use Rattle.watch.proofs.Stuffing.{wrong_next}
use Rattle.watch.proofs.sections.reading.read_all.Goals as goal

-- some bytes read ahead of the rest
some_ahead : (n : Next) (w v : Reading) (bs : Bytes) (k : ℕ) → v ≡ read_all n w (take k bs) → read_all n v (drop k bs) ≡ read_all n w bs
some_ahead n w v bs k e =
    ap (λ x. read_all n x (drop k bs)) e
    ∙ sym (read_append n w (take k bs) (drop k bs))
    ∙ ap (read_all n w) (take-append-drop k bs)

pub loop-rest-preserved-in-Open : goal.loop-rest-preserved-in-Open
loop-rest-preserved-in-Open c =
    let n = next_of c.args.next in
    let u = bytes_of c.loop-rest.section in
    let bs : Bytes = c.loop-rest.rest.now in
    let k = c.in_ok-taken-in-Open.taken.count in
    ap (read_all n _) (take_rest bs k)
    ∙ some_ahead n (section u) _ bs k (c.in_ok-taken-in-Open.ensures.reads n)
    ∙ ap (λ p. read_all n (reading_of (Ok p) u) bs) (sym c.in-Open.is)
    ∙ c.loop-rest.invariant

pub returns-in_err-progress-in-Ended : goal.returns-in_err-progress-in-Ended
returns-in_err-progress-in-Ended c =
    let n = next_of c.args.next in
    let u = bytes_of c.loop-rest.section in
    let bs : Bytes = c.loop-rest.rest.now in
    let x = c.in_err-progress-in-Ended.field-0.0 in
    let e : c.from_residual-in_err-progress-in-Ended.result ≡ Err x = search rules in
    ap (λ r. reading_of r (bytes_of c.after_end.new.section)) e
    ∙ wrong_next n bs (rule_number x) (search rules) c.in_err-progress-in-Ended.ensures
    ∙ ap (λ p. read_all n (reading_of (Ok p) u) bs) (sym c.in-Ended.is)
    ∙ c.loop-rest.invariant
