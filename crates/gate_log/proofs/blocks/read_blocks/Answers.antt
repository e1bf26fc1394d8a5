use Rattle.std.proofs.Common.{◌≡◌, ℕ, ◌+◌, ◌-◌, ◌<◌, ◌++◌, List, length, take, drop, refl, subst}
use Rattle.std.proofs.lemmas.List.{take_rest}
use Rattle.gate_log.specs.Blocks.{framed, IsBody}
use Rattle.gate_log.specs.Reading.{bodies_of}
use Rattle.gate_log.proofs.Placing.{bodies-push, places-push}
use Rattle.gate_log.proofs.Reading.{read_on}
use Rattle.gate_log.proofs.blocks.read_blocks.Goals as goal

pub loop-at-preserved : goal.loop-at-preserved
loop-at-preserved c =
    let inv = c.loop-at.invariant in
    let n = c.in-Some.len in
    let bytes = c.args.bytes.now in
    let body : List ℕ = take (c.loop-at.at + 10 + n - (c.loop-at.at + 10)) (drop (c.loop-at.at + 10) bytes) in
    let found = subst (λ (r : List ℕ). IsBody (take n (drop 9 r)) × (9 + n < length r) × (r ≡ framed (take n (drop 9 r)) ++ drop (9 + n) r)) (take_rest bytes (c.loop-at.at + 1)) c.in-Some.ensures in
    let pushed = bodies-push c.loop-at.list c.push.new.self c.in_ok-block_of.field-0 c.loop-at.at body c.in_ok-block_of.ensures c.in_ok-push.ensures.ok in
    let on = read_on bytes c.loop-at.at n (bodies_of c.loop-at.list) (bodies_of c.push.new.self) body (record { within = inv.within; all = inv.all; place = inv.place; so_far = inv.so_far }) c.loop-at-test.true found refl pushed in
    record {
      within = on.within;
      all = on.all;
      place = on.place;
      so_far = on.so_far;
      places = places-push c.loop-at.list c.push.new.self c.in_ok-block_of.field-0 c.loop-at.at body c.in_ok-block_of.ensures c.in_ok-push.ensures.ok inv.place inv.places;
    }
