-- The loop that ends a family: one Exit more, and the last.
use Rattle.kernel_acts.proofs.Prelude.{◌≡◌, ◌≢◌, ℕ, ◌+◌, ◌<◌, ◌≤◌, length, take, set, true, false, List, [], ◌∷◌, ◌++◌, sym, ap, subst, ◌∙◌, Some, arith, take_more_set, map-append, Member, State, is_live, View, IsWellFormed, exit_of, exits, Descends, EndsFamily, is_child_of, answer, next, ended_by, CarriesOut, EndAlong, Ended, spaces_of_all}
use Rattle.kernel_acts.proofs.FamilyEnds.{Ending, ending_more, ending_last, parent_below, descends_then, descends_live, descends_not_root, exit_after, along_more}
use Rattle.kernel_acts.proofs.Members.{len_removed}
use Rattle.page_words.specs.FiniteMap as map
use Rattle.kernel_calls.specs.declared.calls.Reply.TheVariants as reply
use Rattle.kernel_calls.specs.declared.translations.Ended.TheVariants as end

-- some have exited, from v to w, and the search goes on at one that descends from p
pub record Going (v w : View) (p at count : ℕ) (list : List ℕ) : Type 0 where
  pub ending : Ending v.state p (take count list) w.state
  pub here : Descends w.state p at
  pub along : EndAlong (exits (take count list)) (spaces_of_all (take count list)) v w
  pub room : count + map.len w.state.book ≤ 64

-- the Exit of one without children
pub record Leaves (w u : View) (at leaf : ℕ) : Type 0 where
  pub below : Descends w.state at leaf
  pub childless : (r : ℕ) → is_child_of w.state leaf r ≡ false
  pub done : answer w.state (exit_of leaf) ≡ reply.Done
  pub state : u.state ≡ next w.state (exit_of leaf)
  pub ended : end.Space leaf ≡ ended_by w (exit_of leaf)
  pub carried : CarriesOut w (exit_of leaf) u

one_less : (w u : View) (leaf : ℕ) → is_live w.state leaf ≡ true → u.state ≡ next w.state (exit_of leaf)
    → answer w.state (exit_of leaf) ≡ reply.Done → map.len u.state.book + 1 ≡ map.len w.state.book
one_less w u leaf live state done = grind (arith, len_removed, exit_after)

-- fewer are live then
pub going_down : (w u : View) (p leaf : ℕ) → is_live w.state leaf ≡ true → u.state ≡ next w.state (exit_of leaf)
    → answer w.state (exit_of leaf) ≡ reply.Done → map.len u.state.book < map.len w.state.book
going_down w u p leaf live state done = let a = one_less w u leaf live state done in omega (arith, a)

module _ (v w u : View) (p at count leaf : ℕ) (list : List ℕ) (not_root : p ≢ 0) (wv : IsWellFormed v.state) (ww : IsWellFormed w.state)
    (g : Going v w p at count list) (l : Leaves w u at leaf) (within : count < length list) where
  below : Descends w.state p leaf
  below = descends_then g.here l.below

  more : take (count + 1) (set list count leaf) ≡ take count list ++ leaf ∷ []
  more = take_more_set list count leaf within

  along : EndAlong (exits (take (count + 1) (set list count leaf))) (spaces_of_all (take (count + 1) (set list count leaf))) v u
  along = grind (arith, more, map-append, along_more)

  less : map.len u.state.book + 1 ≡ map.len w.state.book
  less = one_less w u leaf (descends_live g.ending.live below) l.state l.done

  pub going_on : leaf ≢ p → (m : Member) → map.get w.state.book leaf ≡ Some m → Going v u p m.parent (count + 1) (set list count leaf)
  going_on apart m entry = record {
    ending = subst (λ (o : List ℕ). Ending v.state p o u.state) (sym more)
        (subst (λ (k : State). Ending v.state p (take count list ++ leaf ∷ []) k) (sym l.state)
        (ending_more v.state w.state p leaf (take count list) wv ww g.ending apart below l.childless l.done));
    here = subst (λ (k : State). Descends k p m.parent) (sym l.state)
        (parent_below w.state p leaf m entry apart (descends_not_root not_root below) below l.childless l.done);
    along = along;
    room = let a = less in let b = g.room in omega (arith, a, b);
  }

  -- and with p's own the family has ended
  pub going_out : leaf ≡ p → EndsFamily v.state p (take (count + 1) (set list count leaf)) u.state
      × EndAlong (exits (take (count + 1) (set list count leaf))) (spaces_of_all (take (count + 1) (set list count leaf))) v u
  going_out same = (
    subst (λ (o : List ℕ). EndsFamily v.state p o u.state) (sym more)
        (subst (λ (k : State). EndsFamily v.state p (take count list ++ leaf ∷ []) k) (sym l.state)
        (subst (λ n. EndsFamily v.state p (take count list ++ n ∷ []) (next w.state (exit_of n))) (sym same)
        (ending_last v.state w.state p (take count list) wv ww g.ending (λ r. ap (λ n. is_child_of w.state n r) (sym same) ∙ l.childless r) not_root
        (ap (λ n. answer w.state (exit_of n)) (sym same) ∙ l.done)))),
    along,
  )

-- who descends from p is live, so that there is room for one more
pub going_room : (v w : View) (p at count : ℕ) (list : List ℕ) → Going v w p at count list → count < 64
going_room v w p at count list g =
    let n = len_removed w.state.book p g.ending.live in
    let r = g.room in
    omega (arith, n, r)
