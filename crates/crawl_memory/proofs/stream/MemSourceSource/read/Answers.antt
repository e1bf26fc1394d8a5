use Rattle.std.proofs.Common.{◌≡◌, arith, ℕ, length, take, drop, length-take, length-drop}
use Rattle.std.proofs.lemmas.Grind.{common_steps}
use Rattle.crawl_memory.proofs.Pieces.{piece_and_rest}
use Rattle.crawl_memory.proofs.stream.MemSourceSource.read.Goals as goal

pub returns-clause-bytes : goal.returns-clause-bytes
returns-clause-bytes c =
    let at = c.args.self.now.at in
    let n = c.min-n.result in
    let items = c.args.self.now.bytes.items in
    let is : c.copy_from_slice.new.self ≡ take n (drop at items) = grind (arith, common_steps) in
    let long : length c.copy_from_slice.new.self ≡ n = omega (arith, c.copy_from_slice.ensures.len, length-take {A = ℕ}, length-drop {A = ℕ}) in
    piece_and_rest items c.copy_from_slice.new.self (drop n c.args.into.now) at n is long
