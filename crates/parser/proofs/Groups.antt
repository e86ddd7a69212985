-- Laws of operands in parentheses and of abstractions. Assumes nothing.
use Prim.Native.Nat.{ℕ, zero, suc, ◌+◌, ◌*◌, ◌-◌, ◌≤◌, ◌<◌}
use mathlib.Core.Path.{◌≡◌, refl, sym, ap, subst, ◌∙◌}
use mathlib.Core.Bool.{Bool, true, false, cond}
use mathlib.Core.List.{List, [], ◌∷◌, ◌++◌, append_assoc, append-nil}
use native.Mathlib.Omega.{arith}
use native.Mathlib.Numerals.{add-one}
use lib.ListN.{length, get_or, take, drop, set, replicate, length-drop, length-set}
use lib.Seq.{get_or-drop, drop-cons, drop-drop, get_or-set_same, drop-set-lt}
use lib.Dec.{ltb, eqb}
use borrow.Author.Tests.{ltb-true, ltb-false, eqb-true, eqb-false}
use Rattle.std.proofs.lemmas.Slice.{between_to_end}
use Rattle.table.specs.Wrote.{Wrote}
use Rattle.table.proofs.Wrote.{wrote_then}
use Rattle.grammar.specs.Expression.{Expression, abs}
use Rattle.grammar.specs.Tokens.{Token, caret, name, opening, closing, backslash, stop, bang, ampersand, bar, arrow, is_opening, is_backslash, is_closing, is_stop}
use Rattle.grammar.specs.Reader.{Read, nothing, read, empty, follow, abstracted, enclosed, body, binder, inside, operand_by, parse, operand}
use Rattle.grammar.specs.Words.{token, tokens}
use Rattle.grammar.specs.Postfix.{postfix}
use Rattle.grammar.proofs.Places.{tokens_at, tokens_end, tokens_length, sign_at, by_token}
use Rattle.grammar.proofs.Abstractions.{parse_backslash, parse_abstraction}
use Rattle.parser.specs.Code.{IsName, IsBinder, abstracted_by, RowAsks, Row, Asks, Phrased, Tells, close_group}
use Rattle.std.specs.Prelude as code
use Rattle.parser.proofs.Phrases.{parse_took}

not_closing : (w : ℕ) (e : Expression) (r : List Token) → (w ≡ 41 → ⊥) → enclosed e (token w ∷ r) ≡ nothing
unfolding enclosed
not_closing w e r n =
    by_token (λ (t : Token). enclosed e (t ∷ r) ≡ nothing) w (λ e. refl) (λ e. refl) (λ e. refl) (λ e. absurd (n e)) (λ e. refl) (λ e. refl) (λ e. refl) (λ e. refl) (λ e. refl) refl

not_stop : (w : ℕ) (f : List Token → Read) (r : List Token) → (w ≡ 46 → ⊥) → body f (token w ∷ r) ≡ nothing
unfolding body
not_stop w f r n =
    by_token (λ (t : Token). body f (t ∷ r) ≡ nothing) w (λ e. refl) (λ e. refl) (λ e. refl) (λ e. refl) (λ e. absurd (n e)) (λ e. refl) (λ e. refl) (λ e. refl) (λ e. refl) refl

not_binder : (w v : ℕ) (f : ℕ → List Token → Read) (r : List Token) → (v ≡ 46 → ⊥) → binder f (token w ∷ (token v ∷ r)) ≡ nothing
unfolding binder
not_binder w v f r n =
    by_token (λ (t : Token). binder f (t ∷ (token v ∷ r)) ≡ nothing) w (λ e. refl) (λ e. refl) (λ e. refl) (λ e. refl) (λ e. refl) (λ e. refl) (λ e. refl) (λ e. refl) (λ e. refl) (not_stop v (f w) r n)

lone : (f : ℕ → List Token → Read) (t : Token) → binder f (t ∷ []) ≡ nothing
unfolding binder body
lone f caret = refl
lone f (name x) = refl
lone f opening = refl
lone f closing = refl
lone f backslash = refl
lone f stop = refl
lone f bang = refl
lone f ampersand = refl
lone f bar = refl
lone f arrow = refl

lone_nothing : (f : ℕ → List Token → Read) (ts : List Token) → length ts ≤ 1 → binder f ts ≡ nothing
unfolding binder
lone_nothing f [] h = refl
lone_nothing f (t ∷ []) h = lone f t
lone_nothing f (t ∷ (u ∷ ts)) h = absurd (omega arith)

inside_by : (f : ℕ → List Token → Read) (d : ℕ) (ts : List Token) → (d ≡ 0 → ⊥) → inside f d ts ≡ follow (f (d - 1) ts) enclosed
unfolding inside
inside_by f zero ts n = absurd (n refl)
inside_by f (suc d) ts n = let e : d ≡ suc d - 1 = omega arith in ap (λ (i : ℕ). follow (f i ts) enclosed) e

module _ (ws : List ℕ) (at d : ℕ) (Γ : List ℕ) where
  pub none_here : length ws ≤ at → operand d Γ (tokens (drop at ws)) ≡ nothing
  unfolding operand operand_by
  none_here h = ap (operand d Γ) (tokens_end ws at h)

  module _ (h : at < length ws) where
    opens : get_or ws at 0 ≡ 40 → operand d Γ (tokens (drop at ws)) ≡ inside (λ i. parse i Γ empty) d (tokens (drop (at + 1) ws))
    unfolding operand operand_by
    opens e = ap (operand d Γ) (sign_at is_opening ws at h e)

    pub too_deep : get_or ws at 0 ≡ 40 → d ≡ 0 → operand d Γ (tokens (drop at ws)) ≡ nothing
    unfolding inside
    too_deep e z = opens e ∙ ap (λ (i : ℕ). inside (λ j. parse j Γ empty) i (tokens (drop (at + 1) ws))) z

    opened : get_or ws at 0 ≡ 40 → (d ≡ 0 → ⊥) → operand d Γ (tokens (drop at ws)) ≡ follow (parse (d - 1) Γ empty (tokens (drop (at + 1) ws))) enclosed
    opened e n = opens e ∙ inside_by (λ i. parse i Γ empty) d (tokens (drop (at + 1) ws)) n

    module _ (e : get_or ws at 0 ≡ 40) (n : d ≡ 0 → ⊥) where
      pub group_nothing : parse (d - 1) Γ empty (tokens (drop (at + 1) ws)) ≡ nothing → operand d Γ (tokens (drop at ws)) ≡ nothing
      unfolding follow
      group_nothing q = opened e n ∙ ap (λ (z : Read). follow z enclosed) q

      module _ (x : Expression) (next : ℕ) (q : parse (d - 1) Γ empty (tokens (drop (at + 1) ws)) ≡ read x (tokens (drop next ws))) where
        closes : operand d Γ (tokens (drop at ws)) ≡ enclosed x (tokens (drop next ws))
        unfolding follow
        closes = opened e n ∙ ap (λ (z : Read). follow z enclosed) q

        group_cut : length ws ≤ next → operand d Γ (tokens (drop at ws)) ≡ nothing
        unfolding enclosed
        group_cut l = closes ∙ ap (enclosed x) (tokens_end ws next l)

        group_open : next < length ws → (get_or ws next 0 ≡ 41 → ⊥) → operand d Γ (tokens (drop at ws)) ≡ nothing
        group_open l c = closes ∙ ap (enclosed x) (tokens_at ws next l) ∙ not_closing (get_or ws next 0) x _ c

        group_closed : next < length ws → get_or ws next 0 ≡ 41 → operand d Γ (tokens (drop at ws)) ≡ read x (tokens (drop (next + 1) ws))
        unfolding enclosed
        group_closed l c = closes ∙ ap (enclosed x) (sign_at is_closing ws next l c)

    module _ (e : get_or ws at 0 ≡ 92) where
      binds : operand d Γ (tokens (drop at ws)) ≡ binder (λ x. parse d (x ∷ Γ) empty) (tokens (drop (at + 1) ws))
      unfolding operand operand_by
      binds = ap (operand d Γ) (sign_at is_backslash ws at h e)

      binder_cut : length ws - at < 3 → operand d Γ (tokens (drop at ws)) ≡ nothing
      binder_cut l = binds ∙ lone_nothing (λ x. parse d (x ∷ Γ) empty) (tokens (drop (at + 1) ws)) (omega (arith, tokens_length (drop (at + 1) ws), length-drop (at + 1) ws))

      module _ (l : 3 ≤ length ws - at) where
        binder_unnamed : IsName (get_or ws (at + 1) 0) false → operand d Γ (tokens (drop at ws)) ≡ nothing
        binder_unnamed i =
            binds ∙ ap (binder (λ x. parse d (x ∷ Γ) empty)) (tokens_at ws (at + 1) (omega arith))
            ∙ (i _).0 (λ x. parse d (x ∷ Γ) empty)

        binder_unstopped : (get_or ws (at + 2) 0 ≡ 46 → ⊥) → operand d Γ (tokens (drop at ws)) ≡ nothing
        binder_unstopped n =
            let k : at + 1 + 1 ≡ at + 2 = omega arith in
            binds
            ∙ ap (binder (λ x. parse d (x ∷ Γ) empty))
            (tokens_at ws (at + 1) (omega arith) ∙ ap (λ (j : ℕ). token (get_or ws (at + 1) 0) ∷ tokens (drop j ws)) k ∙ ap (λ (ts : List Token). token (get_or ws (at + 1) 0) ∷ ts) (tokens_at ws (at + 2) (omega arith)))
            ∙ not_binder (get_or ws (at + 1) 0) (get_or ws (at + 2) 0) _ _ n

-- whether an abstraction opens at a place
module _ (ws : List ℕ) (at : ℕ) where
  -- the words from there on, as the code cuts them
  abbrev words : List ℕ
  words = take (length ws - at) (drop at ws)

  count : length words ≡ length ws - at
  count = ap length (between_to_end ws at (length ws) (omega arith)) ∙ length-drop at ws

  word : (i j : ℕ) → at + i ≡ j → get_or words i 0 ≡ get_or ws j 0
  word i j e = ap (λ (l : List ℕ). get_or l i 0) (between_to_end ws at (length ws) (omega arith)) ∙ get_or-drop at ws i 0 ∙ ap (λ (k : ℕ). get_or ws k 0) e

  pub cut : length words < 3 → IsBinder ws at false
  cut l = λ h e d Γ. binder_cut ws at d Γ h e (omega (arith, count))

  pub unstopped : 3 ≤ length words → (get_or words 2 0 ≡ 46 → ⊥) → IsBinder ws at false
  unstopped l n = λ h e d Γ. binder_unstopped ws at d Γ h e (omega (arith, count)) (λ q. n (word 2 (at + 2) refl ∙ q))

  pub stopped : 3 ≤ length words → get_or words 0 0 ≡ 92 → get_or words 2 0 ≡ 46 → (b : Bool) → IsName (get_or words 1 0) b → IsBinder ws at b
  stopped l e s true i = (
    omega (arith, count),
    sym (word 0 at (omega arith)) ∙ e,
    subst (λ (w : ℕ). IsName w true) (word 1 (at + 1) refl) i,
    sym (word 2 (at + 2) refl) ∙ s,
  )
  stopped l e s false i = λ h z d Γ. binder_unnamed ws at d Γ h z (omega (arith, count)) (subst (λ (w : ℕ). IsName w false) (word 1 (at + 1) refl) i)

  binder_tokens : IsBinder ws at true → tokens (drop at ws) ≡ backslash ∷ (name (get_or ws (at + 1) 0) ∷ (stop ∷ tokens (drop (at + 3) ws)))
  binder_tokens i =
      let j : at + 1 + 1 ≡ at + 2 = omega arith in
      let k : at + 2 + 1 ≡ at + 3 = omega arith in
      let a : at < length ws = omega (arith, i.0) in
      let b : at + 1 < length ws = omega (arith, i.0) in
      let c : at + 2 < length ws = omega (arith, i.0) in
      rw (sign_at is_backslash ws at a i.1, tokens_at ws (at + 1) b, i.2, j, sign_at is_stop ws (at + 2) c i.3, k)

-- one name more
name_more : (ns : List ℕ) (k x : ℕ) → 0 < k → k ≤ length ns → drop (k - 1) (set ns (k - 1) x) ≡ x ∷ drop k ns
name_more ns k x h l =
    let i : k - 1 < length (set ns (k - 1) x) = simp length-set (omega arith) in
    let j : suc (k - 1) ≡ k = omega arith in
    drop-cons (set ns (k - 1) x) (k - 1) 0 i
    ∙ rw (get_or-set_same ns (k - 1) x 0 (omega arith), j, drop-set-lt k ns (k - 1) x (omega arith))

-- n names less
pub names_less : (ns ms : List ℕ) (k n : ℕ) → n ≤ k → drop (k - n) ms ≡ drop (k - n) ns → drop k ms ≡ drop k ns
names_less ns ms k n h e =
    let j : k - n + n ≡ k = omega arith in
    ap (λ (i : ℕ). drop i ms) (sym j) ∙ sym (drop-drop n (k - n) ms) ∙ ap (drop n) e ∙ drop-drop n (k - n) ns ∙ ap (λ (i : ℕ). drop i ns) j

-- a row of abstractions
module _ (ws : List ℕ) (at : ℕ) (names : List ℕ) (k : ℕ) (q : RowAsks ws at names k) where
  pub row_none : Row ws at names k 0 names
  unfolding abstracted_by
  row_none =
      let i : at + 3 * 0 ≡ at = omega arith in
      let j : k - 0 ≡ k = omega arith in
      let e = sign_at is_backslash ws at q.before q.opens in
      record {
        within = omega (arith, q.before);
        fits = omega arith;
        kept = refl;
        leads = λ d.
            ap (operand d (drop k names)) e ∙ sym (parse_backslash d (drop k names) _) ∙ ap (parse d (drop k names) empty) (sym e)
            ∙ ap (λ (m : ℕ). parse d (drop m names) empty (tokens (drop at ws))) (sym j)
            ∙ ap (λ (m : ℕ). parse d (drop (k - 0) names) empty (tokens (drop m ws))) (sym i);
      }

  module _ (n : ℕ) (ms : List ℕ) (v : Row ws at names k n ms) (b : Bool) (i : IsBinder ws (at + 3 * n) b) where
    row_further : b ≡ true → (at + 3 * n + 3 ≤ length ws) × (n < k)
    row_further z = let l = (subst (IsBinder ws (at + 3 * n)) z i).0 in (omega (arith, l, v.within), omega (arith, l, q.scope))

    pub row_more : length ms ≡ length names → b ≡ true → Row ws at names k (n + 1) (set ms (k - n - 1) (get_or ws (at + 3 * n + 1) 0))
    unfolding abstracted_by
    row_more l z =
        let x = get_or ws (at + 3 * n + 1) 0 in
        let f : at + 3 * n + 3 ≡ at + 3 * (n + 1) = omega arith in
        let g : k - n - 1 ≡ k - (n + 1) = omega arith in
        let h = row_further z in
        record {
          within = omega (arith, h.0);
          fits = omega (arith, h.1);
          kept = drop-set-lt k ms (k - n - 1) x (omega (arith, h.1)) ∙ v.kept;
          leads = λ d.
              v.leads d
              ∙ ap (abstracted_by n) (
              ap (parse d (drop (k - n) ms) empty) (binder_tokens ws (at + 3 * n) (subst (IsBinder ws (at + 3 * n)) z i)) ∙ parse_abstraction d (drop (k - n) ms) x _
              ∙ ap (λ (Δ : List ℕ). abstracted (parse d Δ empty (tokens (drop (at + 3 * n + 3) ws)))) (sym (name_more ms (k - n) x (omega (arith, h.1)) (omega (arith, q.inside))))
              )
              ∙ ap (λ (m : ℕ). abstracted_by (suc n) (parse d (drop m (set ms (k - n - 1) x)) empty (tokens (drop (at + 3 * n + 3) ws)))) g
              ∙ ap (λ (m : ℕ). abstracted_by (suc n) (parse d (drop (k - (n + 1)) (set ms (k - n - 1) x)) empty (tokens (drop m ws)))) f
              ∙ ap (λ (m : ℕ). abstracted_by m (parse d (drop (k - (n + 1)) (set ms (k - n - 1) x)) empty (tokens (drop (at + 3 * (n + 1)) ws)))) (sym (add-one n));
        }

    pub row_end : b ≡ false → n ≡ 0 → (d : ℕ) (Γ : List ℕ) → operand d Γ (tokens (drop at ws)) ≡ nothing
    row_end z y =
        let f : at + 3 * n ≡ at = omega arith in
        subst (λ (j : ℕ). IsBinder ws j false) f (subst (IsBinder ws (at + 3 * n)) z i) q.before q.opens

  -- as many as there is room for
  pub row_full : (n : ℕ) (ms : List ℕ) → Row ws at names k n ms → n ≡ k
      → Row ws at names k k ms × (k ≡ 0 → (d : ℕ) (Γ : List ℕ) → operand d Γ (tokens (drop at ws)) ≡ nothing)
  row_full n ms v e = (subst (λ (i : ℕ). Row ws at names k i ms) e v, λ z. absurd (omega (arith, q.before, q.scope)))

pub ruleset rows = (row_none, row_end, row_full)

-- an operand in parentheses
module _ (ws : List ℕ) (at d : ℕ) (Γ : List ℕ) (w : ℕ) (post m : List ℕ) (h : at < length ws) (e : get_or ws at 0 ≡ 40) (n : d ≡ 0 → ⊥) where
  pub group_told : (next end : ℕ) → Phrased (parse (d - 1) Γ empty (tokens (drop (at + 1) ws))) ws w post m next end
      → Tells (operand d Γ (tokens (drop at ws))) ws w post m (close_group ws (record { next = next; end = end }))
  unfolding close_group Tells
  group_told next end o = go (ltb next (length ws)) refl (eqb (get_or ws next 0) 41) refl
    where
      go : (y : Bool) → ltb next (length ws) ≡ y → (z : Bool) → eqb (get_or ws next 0) 41 ≡ z
          → Tells (operand d Γ (tokens (drop at ws))) ws w post m (cond y (cond z (code.Some (record { next = next + 1; end = end })) code.None) code.None)
      go true p true q =
          let l = ltb-true next (length ws) p in
          record { e = o.e; leads = group_closed ws at d Γ h e n o.e next o.leads l (eqb-true _ _ q); within = omega arith; wrote = o.wrote }
      go true p false q = group_open ws at d Γ h e n o.e next o.leads (ltb-true next (length ws) p) (eqb-false _ _ q)
      go false p z q = group_cut ws at d Γ h e n o.e next o.leads (ltb-false next (length ws) p)

-- n abstractions around an expression
unfoldable abs_by : ℕ → Expression → Expression
abs_by zero e = e
abs_by (suc n) e = abs_by n (abs e)

abs_by_symbols : (n : ℕ) (e : Expression) → postfix e ++ replicate n 4 ≡ postfix (abs_by n e)
unfolding abs_by postfix
abs_by_symbols zero e = append-nil (postfix e)
abs_by_symbols (suc n) e = sym (append_assoc (postfix e) (4 ∷ []) (replicate n 4)) ∙ abs_by_symbols n (abs e)

by_nothing : (n : ℕ) → abstracted_by n nothing ≡ nothing
unfolding abstracted_by abstracted
by_nothing zero = refl
by_nothing (suc n) = by_nothing n

by_read : (n : ℕ) (e : Expression) (r : List Token) → abstracted_by n (read e r) ≡ read (abs_by n e) r
unfolding abstracted_by abstracted abs_by
by_read zero e r = refl
by_read (suc n) e r = by_read n (abs e) r

-- the operand that a row of abstractions and its body are
module _ (ws : List ℕ) (at d : ℕ) (names : List ℕ) (k : ℕ) (post : List ℕ) (w : ℕ) (q : Asks ws at names k post w) (n : ℕ) (ms : List ℕ)
    (y : length ms ≡ length names) (v : Row ws at names k n ms) where
  module _ (m : List ℕ) (x : length m ≡ length post) where
    module _ (next end : ℕ) (o : Phrased (parse d (drop (k - n) ms) empty (tokens (drop (at + 3 * n) ws))) ws w post m next end) where
      pub body_room : end + n ≤ length m
      body_room = omega (
        arith,
        parse_took d (drop (k - n) ms) ws (at + 3 * n) next o.e v.within o.within o.leads,
        o.within,
        o.wrote.ends,
        q.room,
        q.space,
      )

      pub body_told : (l : List ℕ) (e : ℕ) → Wrote m end (replicate n 4) e l → Phrased (operand d (drop k names) (tokens (drop at ws))) ws w post l next e
      body_told l e b = record {
        e = abs_by n o.e;
        leads = v.leads d ∙ ap (abstracted_by n) o.leads ∙ by_read n o.e _;
        within = o.within;
        wrote = rw (abs_by_symbols n o.e) at (wrote_then post m l (postfix o.e) (replicate n 4) w end e x o.wrote b);
      }

    pub body_none : parse d (drop (k - n) ms) empty (tokens (drop (at + 3 * n) ws)) ≡ nothing → operand d (drop k names) (tokens (drop at ws)) ≡ nothing
    body_none o = v.leads d ∙ ap (abstracted_by n) o ∙ by_nothing n
