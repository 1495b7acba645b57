-- `number::root::is_root` meets its contract: what the tests that pass say of the square is what `Near` says. Assumes nothing.
use Rattle.std.proofs.Common.{◌≡◌, ℕ, ◌+◌, ◌-◌, ◌*◌, ◌/◌, ◌%◌, ◌^◌, ◌<◌, ◌≤◌, true, ◌&&◌, T, ltb, leb, sym, subst, arith, ltb-true, leb-true}
use lib.Ieee.Bits.{is_true}
use lib.Ieee.Fits.{and_l, and_r}
use Rattle.number.proofs.Squares.{halves_le, root_tested}
use Rattle.number.proofs.root.is_root.Goals as goal

both : (a b c d : ℕ) → (ltb a b && leb c d) ≡ true → (a < b) × (c ≤ d)
both a b c d h =
    let t = subst T (sym h) tt in
    (ltb-true a b (is_true (ltb a b) (and_l (ltb a b) (leb c d) t)), leb-true c d (is_true (leb c d) (and_r (ltb a b) (leb c d) t)))

-- a difference that wraps round gives what it was taken from
wrapped : (c a : ℕ) → c < 2 ^ 64 → a ≤ 2 ^ 64 → ((c + (2 ^ 64 - a)) % 2 ^ 64 + a) % 2 ^ 64 ≡ c
wrapped c a h k = omega arith

pub returns-then-f-lt2147483648 : goal.returns-then-f-lt2147483648
returns-then-f-lt2147483648 c h =
    let q = c.args.q in
    let b = halves_le q c.requires.1 in
    let A = q / 2 ^ 26 * (q / 2 ^ 26) in
    let B = 2 * (q / 2 ^ 26 * (q % 2 ^ 26)) in
    let e = (c.args.c + (2 ^ 64 - A)) % 2 ^ 64 in
    let f = (e * 2 ^ 26 + 2 ^ 30 + (2 ^ 64 - B)) % 2 ^ 64 in
    let m = f * 2 ^ 26 + q in
    let n = q % 2 ^ 26 * (q % 2 ^ 26) + 2 ^ 56 in
    let t = both n m m (n + 2 * q) h in
    let small : e < 2 ^ 36 = c.if-e-lt68719476736.true in
    let E = wrapped c.args.c A (omega arith) (omega arith) in
    let F = wrapped (e * 2 ^ 26 + 2 ^ 30) B (omega arith) (omega arith) in
    root_tested c.args.c q e f c.requires.0 c.requires.1 E small F c.if-f-lt2147483648.true t.0 t.1
