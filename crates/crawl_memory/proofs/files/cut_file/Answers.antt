use Rattle.std.proofs.Common.{◌≡◌, true, List, [], length, take, refl, sym, ◌∙◌, ap, arith}
use Rattle.std.proofs.lemmas.List.{take_all}
use Rattle.crawl_memory.specs.declared.file.MemFile.{MemFile}
use Rattle.crawl_memory.specs.Files.{same_file, file_bytes}
use Rattle.crawl_memory.proofs.FileLists.{found_bytes, replaced_here, replaced_elsewhere, nowhere_bytes}
use Rattle.crawl_memory.proofs.files.cut_file.Goals as goal

pub returns-then-same_file-clause-here : goal.returns-then-same_file-clause-here
returns-then-same_file-clause-here c =
    let d = c.index_mut-file.result.now in
    let test : same_file d.id c.args.id ≡ true = sym c.same_file.ensures ∙ c.if-same_file.true in
    replaced_here c.loop-i.files.items c.args.files.now.items c.args.id c.loop-i.i d c.loop-i.invariant.same c.loop-i.invariant.passed (omega (arith, ap length c.loop-i.invariant.same)) c.index_mut-file.ensures.value test _ refl
    ∙ c.truncate.ensures.items
    ∙ ap (take c.args.to) (sym (found_bytes c.loop-i.files.items c.args.files.now.items c.args.id c.loop-i.i d c.loop-i.invariant.same c.loop-i.invariant.passed (omega (arith, ap length c.loop-i.invariant.same)) c.index_mut-file.ensures.value test))

pub returns-then-same_file-clause-elsewhere : goal.returns-then-same_file-clause-elsewhere
returns-then-same_file-clause-elsewhere c f apart =
    let d = c.index_mut-file.result.now in
    let test : same_file d.id c.args.id ≡ true = sym c.same_file.ensures ∙ c.if-same_file.true in
    replaced_elsewhere c.loop-i.files.items c.args.files.now.items c.args.id c.loop-i.i d c.loop-i.invariant.same c.loop-i.invariant.passed (omega (arith, ap length c.loop-i.invariant.same)) c.index_mut-file.ensures.value test _ f refl apart

pub returns-clause-here : goal.returns-clause-here
returns-clause-here c =
    let none = nowhere_bytes c.loop-i.files.items c.args.files.now.items c.args.id c.loop-i.i c.loop-i.invariant.same c.loop-i.invariant.passed (omega (arith, ap length c.loop-i.invariant.same)) in
    ap (λ (l : List MemFile). file_bytes l c.args.id) c.loop-i.invariant.same ∙ none ∙ sym (ap (take c.args.to) none ∙ take_all c.args.to [] (omega arith))
