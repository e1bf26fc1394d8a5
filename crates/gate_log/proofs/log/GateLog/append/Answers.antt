use Rattle.std.proofs.Common.{ℕ, List, [], ◌∷◌, ◌++◌, ◌∙◌, ap, subst, arith}
use Rattle.gate_log.specs.Blocks.{framed, IsBody}
use Rattle.gate_log.proofs.AppendRun.{first_leaves, second_leaves, at_rest_again, spelled_again}
use Rattle.gate_log.proofs.log.GateLog.append.Goals as goal

pub returns-in_err-write_synced-clause-any_moment :
    goal.returns-in_err-write_synced-clause-any_moment
returns-in_err-write_synced-clause-any_moment g c bodies rest =
    let is_frame = c.deref.ensures.value ∙ c.block.invariant.spelled ∙ ap (λ (b : List ℕ). framed b ++ 45 ∷ []) c.block.view_is in
    let one = subst IsBody c.block.view_is c.block.invariant.body in
    first_leaves g.V.Volume c.args.self.now.file c.args.self.now.gate c.args.volume.now c.write_synced.new.volume bodies c.args.block.now c.deref.result.now rest is_frame one c.write_synced.ensures.any_moment

pub returns-in_err-write_synced-2-clause-any_moment :
    goal.returns-in_err-write_synced-2-clause-any_moment
returns-in_err-write_synced-2-clause-any_moment g c bodies rest =
    let is_frame = c.deref.ensures.value ∙ c.block.invariant.spelled ∙ ap (λ (b : List ℕ). framed b ++ 45 ∷ []) c.block.view_is in
    let one = subst IsBody c.block.view_is c.block.invariant.body in
    second_leaves g.V.Volume c.args.self.now.file c.args.self.now.gate c.args.volume.now c.write_synced.new.volume bodies c.args.block.now c.deref.result.now rest is_frame one
    (c.in_ok-write_synced.ensures.written rest.disk.tells) (c.in_ok-write_synced.ensures.durable rest.disk.tells) g.met.V.Volume.counts_now c.write_synced-2.new.volume c.write_synced.ensures.any_moment c.write_synced-2.ensures.any_moment

pub returns-clause-ok : goal.returns-clause-ok
returns-clause-ok g c bodies rest =
    let is_frame = c.deref.ensures.value ∙ c.block.invariant.spelled ∙ ap (λ (b : List ℕ). framed b ++ 45 ∷ []) c.block.view_is in
    let one = subst IsBody c.block.view_is c.block.invariant.body in
    let told = c.in_ok-write_synced.ensures.tells ∙ rest.disk.tells in
    at_rest_again g.V.Volume c.args.self.now.file c.args.self.now.gate c.args.volume.now c.write_synced.new.volume bodies c.args.block.now c.deref.result.now rest is_frame one
    (c.in_ok-write_synced.ensures.written rest.disk.tells) (c.in_ok-write_synced.ensures.durable rest.disk.tells) c.write_synced-2.new.volume
    (c.in_ok-write_synced-2.ensures.written told) _ (omega (arith, c.deref.ensures.len, c.len.ensures)) (c.in_ok-write_synced-2.ensures.tells ∙ told) (c.in_ok-write_synced-2.ensures.durable told)

pub returns-clause-any_moment : goal.returns-clause-any_moment
returns-clause-any_moment g c bodies rest =
    let is_frame = c.deref.ensures.value ∙ c.block.invariant.spelled ∙ ap (λ (b : List ℕ). framed b ++ 45 ∷ []) c.block.view_is in
    let one = subst IsBody c.block.view_is c.block.invariant.body in
    second_leaves g.V.Volume c.args.self.now.file c.args.self.now.gate c.args.volume.now c.write_synced.new.volume bodies c.args.block.now c.deref.result.now rest is_frame one
    (c.in_ok-write_synced.ensures.written rest.disk.tells) (c.in_ok-write_synced.ensures.durable rest.disk.tells) g.met.V.Volume.counts_now c.write_synced-2.new.volume c.write_synced.ensures.any_moment c.write_synced-2.ensures.any_moment

pub returns-clause-spelled : goal.returns-clause-spelled
returns-clause-spelled g c bodies rest =
    let is_frame = c.deref.ensures.value ∙ c.block.invariant.spelled ∙ ap (λ (b : List ℕ). framed b ++ 45 ∷ []) c.block.view_is in
    let one = subst IsBody c.block.view_is c.block.invariant.body in
    let told = c.in_ok-write_synced.ensures.tells ∙ rest.disk.tells in
    spelled_again g.V.Volume c.args.self.now.file c.args.self.now.gate c.args.volume.now c.write_synced.new.volume bodies c.args.block.now c.deref.result.now rest is_frame one
    (c.in_ok-write_synced.ensures.written rest.disk.tells) (c.in_ok-write_synced.ensures.durable rest.disk.tells) c.write_synced-2.new.volume (c.in_ok-write_synced-2.ensures.written told)
