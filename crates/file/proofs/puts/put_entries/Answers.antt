use Rattle.std.proofs.Common.{◌≡◌, ◌+◌, ◌*◌, List, [], ◌∷◌, ◌++◌, length, get_or, take, sym, ap, ◌∙◌, append-nil, arith, length-take}
use Rattle.std.proofs.lemmas.List.{take_more}
use Rattle.model.specs.declared.entry.Entry.{Entry}
use Rattle.model.specs.Buffers.{laid}
use Rattle.model.specs.Packet.{Bytes}
use Rattle.model.specs.File.{entry_bytes, entries_bytes}
use Rattle.model.proofs.Searches.{no_entry}
use Rattle.file.proofs.EntryBytes.{bytes_append, bytes_length}
use Rattle.file.proofs.Behind.{put_behind}
use Rattle.file.proofs.puts.put_entries.Goals as goal

pub loop-i-preserved : goal.loop-i-preserved
loop-i-preserved c =
    let b = c.args.buffer.now in
    let es = c.args.entries.now in
    let i = c.loop-i.i in
    let e = get_or es i no_entry in
    let size : length (take i es) ≡ i = simp length-take (omega arith) in
    let place : 4 * i ≡ 0 + length (entries_bytes (take i es)) = (let s = bytes_length (take i es) in omega arith) in
    put_behind b (entries_bytes (take i es)) (entry_bytes e) 0 (4 * i) _ _ _ (omega arith) place (omega arith) c.loop-i.invariant (c.copy_from_slice.ensures.after ∙ c.bytes_of_entry.ensures)
    ∙ ap (λ (x : Bytes). laid 0 (entries_bytes (take i es) ++ x) b) (sym (append-nil (entry_bytes e)))
    ∙ ap (λ (x : Bytes). laid 0 x b) (sym (bytes_append (take i es) (e ∷ [])))
    ∙ ap (λ (x : List Entry). laid 0 (entries_bytes x) b) (sym (take_more es i no_entry c.loop-i-test.true))
