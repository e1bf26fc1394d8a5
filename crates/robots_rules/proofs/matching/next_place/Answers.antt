use Rattle.std.proofs.Common.{◌≡◌, ◌==◌, ◌≤◌, not, length, get_or, drop, arith, ap, ◌∙◌, length-drop}
use Rattle.std.specs.List.{position_or_len}
use Rattle.std.proofs.lemmas.List.Sums.{prefix_len-le-length}
use Rattle.robots_rules.proofs.Lying.{next-place}
use Rattle.robots_rules.proofs.matching.next_place.Goals as goal

pub returns : goal.returns
returns g c =
    let path = c.args.path.now in
    let first = get_or c.args.pattern.now 0 0 in
    let passed : c.first_of-passed.result ≡ position_or_len (λ b. b == first) path = c.first_of-passed.ensures in
    let left : c.from.result.now ≡ drop (position_or_len (λ b. b == first) path) path = c.from.ensures ∙ ap (λ n. drop n path) passed in
    let within : position_or_len (λ b. b == first) path ≤ length path = prefix_len-le-length (λ b. not (b == first)) path in
    let place = next-place c.args.pattern.now path c.if-pattern-lt2.false c.if-pattern-eq42.false in
    record {
      same = (λ h. place.0 (rw left at h), λ h. rw left (place.1 h));
      shorter = omega (arith, ap length c.from.ensures, length-drop c.first_of-passed.result path);
      cost = omega (arith, ap length c.from.ensures, length-drop c.first_of-passed.result path);
    }
