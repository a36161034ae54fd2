use Rattle.std.proofs.Common.{◌≡◌, drop, sym, ap, ◌∙◌, ◌-◌, length, rules}
use Rattle.std.proofs.lemmas.Slice.Eq.{slice_eq-Decides}
use Rattle.std.proofs.lemmas.Bool.Decides.{Decides-eqb}
use Rattle.model.specs.File.{mark, last}
use Rattle.file.proofs.trailer.read_trailer.Goals as goal

pub returns-clause-again : goal.returns-clause-again
returns-clause-again c =
    let end = c.in_ok-end.end.now in
    let marked : mark ≡ last 4 end = (slice_eq-Decides Decides-eqb mark (last 4 end) _ c.ends_with.ensures.value).0 (search rules) in
    let place : length end - 4 ≡ 20 = search rules in
    let last : end ≡ last 24 c.args.file.now = search rules in
    c.fields.ensures.again (ap (λ n. drop n end) (sym place) ∙ sym marked) ∙ last
