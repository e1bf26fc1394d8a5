use Rattle.std.proofs.Common.{◌≡◌, ℕ, ◌+◌, ◌<◌, ◌≤◌, ◌^◌, List, length, take, drop, sym, ◌∙◌, ap, subst, arith, length-drop}
use Rattle.std.proofs.lemmas.List.{length-take-le}
use Rattle.gate_log.specs.Blocks.{hex_digits}
use Rattle.gate_log.proofs.Reading.{spells, spells_len, framed_from}
use Rattle.gate_log.proofs.blocks.body_len.Goals as goal

pub returns-then-rest-lt11 : goal.returns-then-rest-lt11
returns-then-rest-lt11 c body gate behind one is = let s = spells c.args.rest.now body behind gate is in let n = one.not_empty in let k = s.long in omega arith

pub returns-then-rest-ne10 : goal.returns-then-rest-ne10
returns-then-rest-ne10 c body gate behind one is = let s = spells c.args.rest.now body behind gate is in let l = s.line in omega arith

eight : (rest : List ℕ) → 11 ≤ length rest → length (take 8 rest) ≡ 8
eight rest long = length-take-le 8 rest (omega arith)

read : (rest : List ℕ) (n : ℕ) → 11 ≤ length rest → (n < 16 ^ length (take 8 rest)) × (take 8 rest ≡ hex_digits (length (take 8 rest)) n) → (n < 16 ^ 8) × (take 8 rest ≡ hex_digits 8 n)
read rest n long h = subst (λ (k : ℕ). (n < 16 ^ k) × (take 8 rest ≡ hex_digits k n)) (eight rest long) h

pub returns-in_default : goal.returns-in_default
returns-in_default c body gate behind one is =
    c.in_default.ensures (length body) ((spells c.args.rest.now body behind gate is).digits ∙ ap (λ (k : ℕ). hex_digits k (length body)) (sym (eight c.args.rest.now c.if-rest-lt11.false)))

pub returns-then-len-lt1 : goal.returns-then-len-lt1
returns-then-len-lt1 c body gate behind one is =
    let d = read c.args.rest.now c.in-Some.len c.if-rest-lt11.false c.in-Some.ensures in
    let len : c.in-Some.len ≡ length body = spells_len c.args.rest.now body behind gate c.in-Some.len one is d.0 d.1 in
    let n = one.not_empty in let t = c.if-len-lt1.true in omega arith

pub returns-then-len-gt-MOST_BODY : goal.returns-then-len-gt-MOST_BODY
returns-then-len-gt-MOST_BODY c body gate behind one is =
    let d = read c.args.rest.now c.in-Some.len c.if-rest-lt11.false c.in-Some.ensures in
    let len : c.in-Some.len ≡ length body = spells_len c.args.rest.now body behind gate c.in-Some.len one is d.0 d.1 in
    let n = one.no_longer in let t = c.if-len-gt-MOST_BODY.true in omega arith

pub returns-then-rest-len : goal.returns-then-rest-len
returns-then-rest-len c body gate behind one is =
    let d = read c.args.rest.now c.in-Some.len c.if-rest-lt11.false c.in-Some.ensures in
    let len : c.in-Some.len ≡ length body = spells_len c.args.rest.now body behind gate c.in-Some.len one is d.0 d.1 in
    let s = spells c.args.rest.now body behind gate is in let l = s.long in let t = c.if-rest-len.true in omega arith

pub returns : goal.returns
returns c =
    let rest = c.args.rest.now in
    let n = c.in-Some.len in
    let d = read rest n c.if-rest-lt11.false c.in-Some.ensures in
    let l = c.if-rest-lt11.false in let t = c.if-rest-len.false in
    let within : 9 + n < length rest = omega arith in
    let long : length (take n (drop 9 rest)) ≡ n = length-take-le n (drop 9 rest) (omega (arith, within, length-drop 9 rest)) in
    let a = c.if-len-lt1.false in let b = c.if-len-gt-MOST_BODY.false in
    (record { not_empty = omega (arith, long, a); no_longer = omega (arith, long, b) }, within, framed_from rest n within d.1 c.if-rest-ne10.false)
