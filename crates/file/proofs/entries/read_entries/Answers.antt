use Rattle.std.proofs.Common.{◌≡◌, ◌+◌, ◌-◌, ◌/◌, List, [], ◌∷◌, ◌++◌, length, get_or, sym, ap, ◌∙◌, rules, length-set}
use Rattle.std.proofs.lemmas.List.{take_more_set}
use Rattle.std.proofs.lemmas.Bool.{and_from, and_right}
use Rattle.model.specs.declared.entry.Entry.{Entry}
use Rattle.model.specs.Packet.{Bytes}
use Rattle.model.specs.File.{entry_part, entry_bytes, entries_in, are_entries}
use Rattle.file.specs.Entries.{entry_in}
use Rattle.file.proofs.EntryBytes.{entry_read, entry_none, none_among, are_more, entries_more, bytes_more, chunk_is}
use Rattle.file.proofs.entries.read_entries.Goals as goal

pub returns-in_err-table : goal.returns-in_err-table
returns-in_err-table c =
    let bs = c.args.bytes.now in
    let i = c.loop-i.i in
    let n = length bs / 4 in
    let part : get_or c.as_chunks.result.0.now i [] ≡ entry_part i bs = ap (λ (x : List Bytes). get_or x i []) c.as_chunks.ensures.front ∙ chunk_is n bs [] i (search rules) in
    let bad = entry_none (entry_part i bs) (c.in_err-table.ensures.answers ∙ ap entry_in part) in
    let e : i + 1 + (n - (i + 1)) ≡ n = search rules in
    rw c.from_residual.ensures (ap (λ k. are_entries k bs) (sym e) ∙ none_among bs i (n - (i + 1)) (are_more bs i ∙ and_right _ _ bad))

pub loop-i-preserved : goal.loop-i-preserved
loop-i-preserved c =
    let bs = c.args.bytes.now in
    let i = c.loop-i.i in
    let e = c.in_ok-table.field-0 in
    let part : get_or c.as_chunks.result.0.now i [] ≡ entry_part i bs = ap (λ (x : List Bytes). get_or x i []) c.as_chunks.ensures.front ∙ chunk_is (length bs / 4) bs [] i (search rules) in
    let r = entry_read (entry_part i bs) e (c.in_ok-table.ensures.answers ∙ ap entry_in part) in
    record {
      held = record {
        all = are_more bs i ∙ and_from _ _ c.loop-i.invariant.held.all r.0;
        front = take_more_set c.loop-i.table i e (search rules) ∙ ap (λ (x : List Entry). x ++ (e ∷ [])) c.loop-i.invariant.held.front ∙ ap (λ x. entries_in i bs ++ (x ∷ [])) r.1 ∙ sym (entries_more bs i);
        again = bytes_more bs i c.loop-i.invariant.held.again (ap entry_bytes (sym r.1) ∙ c.in_ok-table.ensures.again ∙ part);
      };
      long = length-set c.loop-i.table i e ∙ c.loop-i.invariant.long;
    }
