-- What follows from the definitions of the same name in specs/.
-- Assumes nothing.
use Rattle.std.specs.Prelude.{ℕ, zero, suc, ◌+◌, ◌/◌, ◌%◌, ◌^◌, ◌<◌, ◌≤◌, ◌≡◌, Bool, false, not, ◌&&◌, cond, ◌≢◌, Option, Some, None}
use Rattle.std.proofs.Math.Path.{refl}
use Rattle.std.proofs.Common.{sym, ap, ◌∙◌, div-le_self, div-lt_iff_lt-mul, pow-suc, arith, shr-shr, pow_pos}
use Rattle.std.proofs.Math.Bool.{true, and-eq-true_iff}
use borrow.Author.Tests.{leb-true, ltb-true, eqb-true, le-leb, lt-ltb, eq-eqb}
use Rattle.std.proofs.Math.Dec.{ltb, leb, eqb}
use Rattle.marks.specs.Bits.{bit}
use Rattle.marks.proofs.Bits.{bit_zero, bit_suc, bit_past, bit_small}
use Rattle.marks.specs.Marks.{is_set}
use Rattle.marks.proofs.Marks.{is_set_lem, set_is}
use Rattle.terms.proofs.Choice.{no_true, is_false, cond_first}
use Rattle.exchange.specs.declared.header.Format.{Format}
use Rattle.exchange.specs.declared.header.Header.{Header}
use Rattle.exchange.specs.Formats.{hd, wide, format_of}
use Rattle.exchange.specs.Forms.{RULE_SETS}
use Rattle.exchange.proofs.Laws.Formats.{format_found, most_known, hd_known}
use Rattle.traces.specs.Realm as exchange
use Rattle.traces.specs.Realm.{HeaderPasses}
use Rattle.realm.specs.declared.header.Realm.{Realm}
use Rattle.realm.specs.Opening.{header, header_fits, realm_fits, refusal_by, header_refusal, rules_by}
use Rattle.realm.proofs.Opening.{by_lookup}
use Rattle.realm.specs.Header.{HeaderTaken}

-- a header by its values
abbrev pub values : (rules n flags ls la : ℕ) → exchange.Realm
values rules n flags ls la = record { rules = rules; n = n; flags = flags; ticket_life = ls; auth_life = la }

-- ---- bits at and above n

-- a number with no bit set is 0
no_bits : (k w : ℕ) → w < 2 ^ k → ((j : ℕ) → bit w j ≡ 0) → w ≡ 0
no_bits zero w h none = omega arith
no_bits (suc k) w h none =
    let rest : w / 2 ≡ 0 = no_bits k (w / 2) (omega (arith, pow-suc 2 k)) (λ j. sym (bit_suc w j) ∙ none (suc j)) in
    omega (arith, bit_zero w, none 0)

bit_above : (w n j : ℕ) → bit (w / 2 ^ n) j ≡ bit w (n + j)
unfolding bit
bit_above w n j = ap (λ (x : ℕ). x % 2) (shr-shr w n j)

small_of : (w n : ℕ) → w / 2 ^ n ≡ 0 → w < 2 ^ n
small_of w n e =
    let q = (div-lt_iff_lt-mul {k = 2 ^ n} {x = w} {y = 1} (pow_pos n)).0 (omega arith) in
    omega arith

lt_pow : (w : ℕ) → w < 2 ^ w
lt_pow zero = omega arith
lt_pow (suc w) = omega (arith, lt_pow w, pow-suc 2 w)

none_zero : (w n : ℕ) → ((p : ℕ) → n ≤ p → bit w p ≡ 0) → w / 2 ^ n ≡ 0
none_zero w n none = no_bits w (w / 2 ^ n) (omega (arith, div-le_self w (2 ^ n), lt_pow w)) (λ j. bit_above w n j ∙ none (n + j) (omega arith))

zero_none : (w n : ℕ) → w / 2 ^ n ≡ 0 → (p : ℕ) → n ≤ p → bit w p ≡ 0
zero_none w n e p h = bit_past n w p (small_of w n e) h

-- ---- the six tests

not_set : (w : ℕ) → not (is_set w 0) ≡ true → bit w 0 ≡ 0
not_set w e =
    let ne : bit w 0 ≢ 1 = λ q. contra (is_set w 0) e (is_set_lem w 0 q) in
    omega (arith, bit_small w 0, ne)
  where
    contra : (b : Bool) → not b ≡ true → b ≡ true → ⊥
    contra true p q = no_true p
    contra false p q = no_true q

set_not : (w : ℕ) → bit w 0 ≡ 0 → not (is_set w 0) ≡ true
set_not w e = ap not (sym (is_false (is_set w 0) (λ q. let z = set_is w 0 q in omega arith)))

module _ (most n flags ls la : ℕ) where
  -- the tests, in the order of the definition
  record Tested : Type 0 where
    least : 3 ≤ n
    most_is : n ≤ most
    server : bit flags 0 ≡ 0
    above : flags / 2 ^ n ≡ 0
    ticket : 0 < ls
    authenticator : 0 < la

  tested : header_fits most n flags ls la ≡ true → Tested
  unfolding header_fits
  tested e =
      let p = (and-eq-true_iff (leb 3 n && leb n most) (not (is_set flags 0) && eqb (flags / 2 ^ n) 0 && ltb 0 ls && ltb 0 la)).0 e in
      let limits = (and-eq-true_iff (leb 3 n) (leb n most)).0 p.0 in
      let q = (and-eq-true_iff (not (is_set flags 0) && eqb (flags / 2 ^ n) 0 && ltb 0 ls) (ltb 0 la)).0 p.1 in
      let r = (and-eq-true_iff (not (is_set flags 0) && eqb (flags / 2 ^ n) 0) (ltb 0 ls)).0 q.0 in
      let s = (and-eq-true_iff (not (is_set flags 0)) (eqb (flags / 2 ^ n) 0)).0 r.0 in
      record {
        least = leb-true 3 n limits.0;
        most_is = leb-true n most limits.1;
        server = not_set flags s.0;
        above = eqb-true _ 0 s.1;
        ticket = ltb-true 0 ls r.1;
        authenticator = ltb-true 0 la q.1;
      }

  pub fits_most : header_fits most n flags ls la ≡ true → n ≤ most
  fits_most e = (tested e).most_is

  pub fits_passes : {rules : ℕ} → most ≤ 32 → ls < 2 ^ 32 → la < 2 ^ 32 → header_fits most n flags ls la ≡ true → HeaderPasses (values rules n flags ls la)
  fits_passes limit hs ha e =
      let t = tested e in
      record {
        least = t.least;
        most = omega (arith, t.most_is, limit);
        server_good = t.server;
        none_above = zero_none flags n t.above;
        ticket_life_some = t.ticket;
        ticket_life_fits = hs;
        auth_life_some = t.authenticator;
        auth_life_fits = ha;
      }

  pub passes_fits : {rules : ℕ} → n ≤ most → HeaderPasses (values rules n flags ls la) → header_fits most n flags ls la ≡ true
  unfolding header_fits
  passes_fits few h =
      rw (
        le-leb 3 n h.least,
        le-leb n most few,
        set_not flags h.server_good,
        eq-eqb (flags / 2 ^ n) 0 (none_zero flags n h.none_above),
        lt-ltb 0 ls h.ticket_life_some,
        lt-ltb 0 la h.auth_life_some,
      )

-- ---- a realm that is lent

module _ (h : Realm) where
  pub realm_is : h.ls < 2 ^ 32 → h.la < 2 ^ 32 → realm_fits h ≡ true → HeaderPasses (header h) × (h.rules < RULE_SETS)
  unfolding realm_fits
  realm_is hs ha e =
      let p = (and-eq-true_iff (header_fits 32 h.n h.flags h.ls h.la) (ltb h.rules RULE_SETS)).0 e in
      (fits_passes 32 h.n h.flags h.ls h.la (omega arith) hs ha p.0, ltb-true h.rules RULE_SETS p.1)

  pub is_realm : HeaderPasses (header h) → h.rules < RULE_SETS → realm_fits h ≡ true
  unfolding realm_fits
  is_realm f r = rw (passes_fits 32 h.n h.flags h.ls h.la f.most f, lt-ltb h.rules RULE_SETS r)

-- ---- the mark too

-- "3 to 16" under HD, "3 to 32" under HW, and "the .. limits of HW" under H5 and H4
module _ (n flags ls la : ℕ) where
  pub hd_refusal : header_refusal (record { mark = 0x4844; n = n; flags = flags; ls = ls; la = la }) ≡ cond (header_fits 16 n flags ls la) 0 2
  hd_refusal = sym (by_lookup _ (Some hd) hd_known)

  pub wide_refusal_lem : (mark rules : ℕ) → format_of mark ≡ Some (wide mark rules)
      → header_refusal (record { mark = mark; n = n; flags = flags; ls = ls; la = la }) ≡ cond (header_fits 32 n flags ls la) 0 2
  wide_refusal_lem mark rules e = sym (by_lookup _ (Some (wide mark rules)) e)

-- no mark names another: a new realm names a rule set
pub new_known : (mark : ℕ) → rules_by (format_of mark) < RULE_SETS
new_known mark = by (format_of mark) refl
  where
    by : (l : Option Format) → format_of mark ≡ l → rules_by l < RULE_SETS
    by None q = omega arith
    by (Some f) q = (format_found mark f q).1.rules_known

module _ (g : Header) where
  pub taken : g.ls < 2 ^ 32 → g.la < 2 ^ 32 → header_refusal g ≡ 0 → HeaderTaken g
  unfolding header_refusal
  taken hs ha e = by (format_of g.mark) refl e
    where
      by : (l : Option Format) → format_of g.mark ≡ l → refusal_by l g ≡ 0 → HeaderTaken g
      by None q z = absurd (omega arith)
      by (Some f) q z =
          let t : header_fits f.most g.n g.flags g.ls g.la ≡ true = (cond_first (header_fits f.most g.n g.flags g.ls g.la) {a = 0} {b = 2} {x = 0} (λ q. omega arith) z).0 in
          record {
            format = f;
            known = q;
            within = fits_most f.most g.n g.flags g.ls g.la t;
            passes = fits_passes f.most g.n g.flags g.ls g.la (most_known g.mark f q) hs ha t;
          }

  pub taken_back : HeaderTaken g → header_refusal g ≡ 0
  taken_back t =
      sym (by_lookup g (Some t.format) t.known)
      ∙ ap (λ (b : Bool). cond b 0 2) (passes_fits t.format.most g.n g.flags g.ls g.la t.within t.passes)

  -- its flags are those of its principals
  pub flags_small : HeaderTaken g → g.flags < 2 ^ g.n
  flags_small t = small_of g.flags g.n (none_zero g.flags g.n t.passes.none_above)
