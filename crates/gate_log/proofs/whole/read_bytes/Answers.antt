use Rattle.std.proofs.Common.{◌≡◌, ℕ, ◌≤◌, List, ◌++◌, length, take, drop, ◌∙◌, ap, arith}
use Rattle.std.proofs.lemmas.List.{take_all, take-take, take-append-le}
use Rattle.crawl_traits.specs.Images.{Image}
use Rattle.gate_log.proofs.whole.read_bytes.Goals as goal

-- a buffer of the file's size, filled as far as the file goes
filled_whole : (count size : ℕ) (into rest bytes file : List ℕ) → bytes ≡ take count (take size (into ++ rest)) → count ≤ length into → count ≤ size → take count into ≡ take size file → size ≡ length file → bytes ≡ file
filled_whole count size into rest bytes file is within fits filled all =
    is ∙ take-take count size (into ++ rest) fits ∙ take-append-le count into rest within ∙ filled ∙ take_all size file (omega (arith, all))

pub returns-clause-bytes : goal.returns-clause-bytes
returns-clause-bytes g c told =
    let file = g.V.Volume.contents c.args.volume.now c.args.file in
    let filled = c.in_ok-count.ensures.filled (c.size.ensures.tells ∙ told) ∙ ap (λ (i : Image). take (length c.deref_mut.result.now) (drop 0 (i c.args.file))) c.size.ensures.contents in
    let size = c.in_ok-size.ensures.size told in
    let within = c.in_ok-count.ensures.within in
    let all : length c.deref_mut.result.now ≡ c.in_ok-bytes.bytes.len = omega (arith, c.deref_mut.ensures.len) in
    let long : c.in_ok-bytes.bytes.len ≡ length file = omega (arith, size, c.in_ok-bytes.ensures.len) in
    filled_whole c.in_ok-count.count c.in_ok-bytes.bytes.len c.read_at.new.into _ c.truncate.new.self.items file c.truncate.ensures.items within
    (omega (arith, within, c.read_at.auto.into, all)) (filled ∙ ap (λ (n : ℕ). take n file) all) long
