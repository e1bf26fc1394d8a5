use Rattle.std.proofs.Common.{◌≡◌, true, length, refl, sym, ◌∙◌, ap, arith}
use Rattle.std.proofs.lemmas.Result.{on_ok_weaker, on_err_weaker}
use Rattle.crawl_traits.specs.Images.{written}
use Rattle.crawl_memory.specs.Files.{same_file}
use Rattle.crawl_memory.proofs.FileLists.{found_bytes, replaced_here, replaced_elsewhere, nowhere_bytes, added_here, added_elsewhere}
use Rattle.crawl_memory.proofs.files.write_file.Goals as goal

pub returns-then-same_file-clause-here : goal.returns-then-same_file-clause-here
returns-then-same_file-clause-here c =
    let d = c.index_mut-file.result.now in
    let test : same_file d.id c.args.id ≡ true = sym c.same_file.ensures ∙ c.if-same_file.true in
    let here = replaced_here c.loop-i.files.items c.args.files.now.items c.args.id c.loop-i.i d c.loop-i.invariant.same c.loop-i.invariant.passed (omega (arith, ap length c.loop-i.invariant.same)) c.index_mut-file.ensures.value test _ refl in
    let was = found_bytes c.loop-i.files.items c.args.files.now.items c.args.id c.loop-i.i d c.loop-i.invariant.same c.loop-i.invariant.passed (omega (arith, ap length c.loop-i.invariant.same)) c.index_mut-file.ensures.value test in
    on_ok_weaker c.write_over.result (λ is. here ∙ is ∙ ap (written c.args.at c.args.from.now) (sym was)) c.write_over.ensures.ok

pub returns-then-same_file-clause-elsewhere : goal.returns-then-same_file-clause-elsewhere
returns-then-same_file-clause-elsewhere c f apart =
    let d = c.index_mut-file.result.now in
    let test : same_file d.id c.args.id ≡ true = sym c.same_file.ensures ∙ c.if-same_file.true in
    replaced_elsewhere c.loop-i.files.items c.args.files.now.items c.args.id c.loop-i.i d c.loop-i.invariant.same c.loop-i.invariant.passed (omega (arith, ap length c.loop-i.invariant.same)) c.index_mut-file.ensures.value test _ f refl apart

pub returns-then-same_file-clause-err : goal.returns-then-same_file-clause-err
returns-then-same_file-clause-err c =
    let d = c.index_mut-file.result.now in
    let test : same_file d.id c.args.id ≡ true = sym c.same_file.ensures ∙ c.if-same_file.true in
    let here = replaced_here c.loop-i.files.items c.args.files.now.items c.args.id c.loop-i.i d c.loop-i.invariant.same c.loop-i.invariant.passed (omega (arith, ap length c.loop-i.invariant.same)) c.index_mut-file.ensures.value test _ refl in
    let was = found_bytes c.loop-i.files.items c.args.files.now.items c.args.id c.loop-i.i d c.loop-i.invariant.same c.loop-i.invariant.passed (omega (arith, ap length c.loop-i.invariant.same)) c.index_mut-file.ensures.value test in
    on_err_weaker c.write_over.result (λ is. here ∙ is ∙ sym was) c.write_over.ensures.err

pub returns-clause-here : goal.returns-clause-here
returns-clause-here c =
    let none = nowhere_bytes c.loop-i.files.items c.args.files.now.items c.args.id c.loop-i.i c.loop-i.invariant.same c.loop-i.invariant.passed (omega (arith, ap length c.loop-i.invariant.same)) in
    added_here c.loop-i.files.items c.args.files.now.items c.args.id c.loop-i.i c.loop-i.invariant.same c.loop-i.invariant.passed (omega (arith, ap length c.loop-i.invariant.same)) _ _ c.in_ok-push.ensures.items refl
    ∙ c.in_ok-write_over.ensures.ok ∙ ap (written c.args.at c.args.from.now) (c.new-bytes.ensures.items ∙ sym none)

pub returns-clause-elsewhere : goal.returns-clause-elsewhere
returns-clause-elsewhere c f apart =
    added_elsewhere c.loop-i.files.items c.args.files.now.items c.args.id c.loop-i.i c.loop-i.invariant.same c.loop-i.invariant.passed (omega (arith, ap length c.loop-i.invariant.same)) _ _ f c.in_ok-push.ensures.items refl apart
