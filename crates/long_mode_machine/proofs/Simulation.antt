-- Each move of a machine in long mode is steps of a machine with processors.
use Rattle.std.proofs.Common.{◌≡◌, ◌≢◌, ℕ, zero, suc, ◌+◌, ◌*◌, ◌^◌, ◌<◌, ◌≤◌, ◌⊎◌, inl, inr, Bool, true, false, ◌==◌, eq-eqb, List, [], ◌∷◌, ◌++◌, Option, Some, None, Ok, refl, sym, ap, subst, ◌∙◌, arith}
use Rattle.std.specs.Prelude.{slice_get, if◌then◌else◌, IfSome, not}
use Rattle.std.proofs.lemmas.Bool.{cases_eq, ne_eqb}
use Rattle.std.proofs.lemmas.List.{append_assoc}
use Rattle.std.proofs.lemmas.Bool.Decides.{nat_tests}
use Rattle.std.specs.Prelude.{nat_lt}
use Rattle.page_words.specs.Addresses.{page_number, start_number, second_page, EachTouched}
use Rattle.page_words.specs.declared.addresses.Size.{Size}
use Rattle.page_words.specs.FiniteMap as map
use Rattle.table_walk.specs.declared.Access.{Access}
use Rattle.table_walk.specs.declared.Access.TheVariants.{Read, Write}
use Rattle.address_space.specs.Spaces as spaces
use Rattle.process_table.specs.View.{View}
use Rattle.kernel_calls.specs.Machine.{next}
use Rattle.kernel_calls.specs.Processors as base
use Rattle.kernel_calls.specs.Processors.{IsCore, Processors, with_kept, LetsThrough, LetCall}
use Rattle.kernel_calls.specs.Translations as old
use Rattle.kernel_calls.proofs.MixedRuns.{read_at}
use Rattle.kernel_calls.specs.Translations.{Kept, translation, IsRead, AreRead, is_ended, is_all_of, is_invalidated, left_by}
use Rattle.kernel_calls.specs.declared.calls.Call.{Call}
use Rattle.kernel_calls.specs.declared.calls.Call.TheVariants as call
use Rattle.kernel_calls.specs.declared.calls.Event.{Event}
use Rattle.kernel_calls.specs.declared.calls.Reply.{Reply}
use Rattle.kernel_calls.specs.declared.translations.Ended.{Ended}
use Rattle.kernel_calls.specs.declared.translations.Ended.TheVariants as end
use Rattle.shadow_tables.specs.LongWalk.{long_walk}
use Rattle.shadow_tables.specs.Shadow.{Shadow, at_page, frame_address, root_frame, shadow_end}
use Rattle.shadow_tables.specs.declared.tables.Translation.{Translation}
use Rattle.shadow_core.specs.Paired.{kept_at}
use Rattle.shadow_core.proofs.Pairing.{left_get}
use Rattle.long_mode_machine.proofs.CachedTables.{Translated, walk_translates, table_translates}
use Rattle.shootdowns.specs.Windows as windows
use Rattle.shootdowns.specs.Windows.{ended_in, Moment, settled, under_way, memory_in, acknowledged, nobody, Step, Steps, none, first, Stands, AreInOrder, ShootdownsMakeEvents}
use Rattle.shootdowns.specs.Worked.{none_kept}
use Rattle.long_mode_machine.specs.LongMode.{Home, PageEntry, TableEntry, Cached, page_entry, table_entry, Processor, LongMode, with_processor, with_caches, Reaches, walked, walked_on, cached, ReachesCall, IsLinked, IsCacheable, MayUse, IsTabled, IsLeft, HasForgotten, CachesNone, AreAmong, NobodyRuns, WalksEndInFrames}
use Rattle.long_mode_machine.specs.Moves as moves
use Rattle.long_mode_machine.specs.Moves.{IsFilled, HasRoot, Move, Moves, IsOpening, LongModeMakesSteps}

-- ---- Lists

-- it is one of these
abbrev Has : List Kept → Kept → Type 0
Has list k = (place : ℕ) × (slice_get list place ≡ Some k)

none_there : {X : Type 0} (n : ℕ) (k : X) → slice_get {X = X} [] n ≡ Some k → ⊥
none_there x0 k h = grind arith

some_same : {X : Type 0} (a b : X) → ◌≡◌ {A = Option X} (Some a) (Some b) → a ≡ b
some_same a b e = cc

-- what isn't ended is left
left_has : (x : Ended) (list : List Kept) (place : ℕ) (k : Kept) → slice_get list place ≡ Some k → is_invalidated x k ≡ false → Has (left_by x list) k
left_has x [] place k there not = absurd (none_there place k there)
left_has x (y ∷ list) zero k there not =
    let same : y ≡ k = some_same y k there in
    let spared : is_invalidated x y ≡ false = ap (is_invalidated x) same ∙ not in
    subst (λ (b : Bool). Has (if b then left_by x list else y ∷ left_by x list) k) (sym spared) (0, there)
left_has x (y ∷ list) (suc n) k there not = by (is_invalidated x y) (left_has x list n k there not)
  where
    by : (b : Bool) → Has (left_by x list) k → Has (if b then left_by x list else y ∷ left_by x list) k
    by true h = h
    by false h = (suc h.0, h.1)

-- what is left was there
left_was : (x : Ended) (list : List Kept) (place : ℕ) (k : Kept) → slice_get (left_by x list) place ≡ Some k → Has list k
left_was x [] place k there = absurd (none_there place k there)
left_was x (y ∷ list) place k there = by (λ n there. left_was x list n k there) (is_invalidated x y) place there
  where
    by : ((n : ℕ) → slice_get (left_by x list) n ≡ Some k → Has list k) → (b : Bool) (place : ℕ)
        → slice_get (if b then left_by x list else y ∷ left_by x list) place ≡ Some k → Has (y ∷ list) k
    by up true place there = (let h = up place there in (suc h.0, h.1))
    by up false zero there = (0, there)
    by up false (suc n) there = (let h = up n there in (suc h.0, h.1))

nothing_left : (list : List Kept) → left_by end.Nothing list ≡ list
nothing_left [] = refl
nothing_left (translation t ∷ list) = ap (λ (l : List Kept). translation t ∷ l) (nothing_left list)
nothing_left (old.directory_entry e ∷ list) = ap (λ (l : List Kept). old.directory_entry e ∷ l) (nothing_left list)

with_own : (K : Processors) (i : ℕ) (list : List Kept) → with_kept K i list i ≡ list
with_own K i list = ap (λ (b : Bool). if b then list else K i) (eq-eqb i i refl)

with_other : (K : Processors) (i j : ℕ) (list : List Kept) → j ≢ i → with_kept K i list j ≡ K j
with_other K i j list other = ap (λ (b : Bool). if b then list else K j) (ne_eqb j i other)

-- ---- Steps

one : {m n : Moment} {K L : Processors} → Step m K [] [] n L → Steps m K [] [] n L
one step = first step none

alone : {m n : Moment} {K L : Processors} {e : Event} {r : Reply} → Step m K (e ∷ []) (r ∷ []) n L → Steps m K (e ∷ []) (r ∷ []) n L
alone step = first step none

append : {m n o : Moment} {K L M : Processors} {es fs : List Event} {rs qs : List Reply} → Steps m K es rs n L → Steps n L fs qs o M → Steps m K (es ++ fs) (rs ++ qs) o M
append none more = more
append {o = o} {M = M} {fs = fs} {qs = qs} (first {m = m} {keeps = keeps} {es = es} {events = events} {rs = rs} {replies = replies} now rest) more =
    subst (λ (l : List Event). Steps m keeps l ((rs ++ replies) ++ qs) o M) (sym (append_assoc es events fs))
    (subst (λ (l : List Reply). Steps m keeps (es ++ (events ++ fs)) l o M) (sym (append_assoc rs replies qs)) (first now (append rest more)))

-- a processor begins to keep all of a list
record Refilled (m : Moment) (K : Processors) (i : ℕ) (list : List Kept) : Type 0 where
  after : Processors
  steps : Steps m K [] [] m after
  own : (k : Kept) → Has list k → Has (after i) k
  more : (k : Kept) → Has (K i) k → Has (after i) k
  others : (j : ℕ) → j ≢ i → after j ≡ K j

refill : (m : Moment) (K : Processors) (i : ℕ) (list : List Kept) → AreRead (memory_in m) list → Refilled m K i list
refill m K i [] all = record {
  after = K;
  steps = none;
  own = λ k h. absurd (none_there h.0 k h.1);
  more = λ k h. h;
  others = λ j other. refl;
}
refill m K i (y ∷ list) all =
    let rest = refill m K i list all.1 in
    let own : with_kept rest.after i (y ∷ rest.after i) i ≡ y ∷ rest.after i = with_own rest.after i (y ∷ rest.after i) in
    let keep : (k : Kept) → Has (y ∷ rest.after i) k → Has (with_kept rest.after i (y ∷ rest.after i) i) k = λ k h. subst (λ (l : List Kept). Has l k) (sym own) h in
    record {
      after = with_kept rest.after i (y ∷ rest.after i);
      steps = append rest.steps (one (windows.refilled i y all.0));
      own = λ k h. keep k (own_of rest.after k (rest.own k) h);
      more = λ k h. keep k (let g = rest.more k h in (suc g.0, g.1));
      others = λ j other. with_other rest.after i j (y ∷ rest.after i) other ∙ rest.others j other;
    }
  where
    own_of : (K : Processors) (k : Kept) → (Has list k → Has (K i) k) → Has (y ∷ list) k → Has (y ∷ K i) k
    own_of K k up (zero, there) = (0, there)
    own_of K k up (suc n, there) = (let g = up (n, there) in (suc g.0, g.1))

-- all processors below a number begin to keep one more
record AllRefilled (m : Moment) (K : Processors) (k : Kept) (c : ℕ) : Type 0 where
  after : Processors
  steps : Steps m K [] [] m after
  own : (j : ℕ) → j < c → Has (after j) k
  more : (j : ℕ) (h : Kept) → Has (K j) h → Has (after j) h
  only : (j : ℕ) (h : Kept) → Has (after j) h → (h ≡ k) ⊎ Has (K j) h
  above : (j : ℕ) → c ≤ j → after j ≡ K j

refill_all : (m : Moment) (K : Processors) (k : Kept) (c : ℕ) → IsRead (memory_in m) k → AllRefilled m K k c
refill_all m K k zero read = record {
  after = K;
  steps = none;
  own = λ j below. absurd (omega (arith, below));
  more = λ j h there. there;
  only = λ j h there. inr there;
  above = λ j up. refl;
}
refill_all m K k (suc c) read =
    let rest = refill_all m K k c read in
    let at : (j : ℕ) → (j ≡ c) ⊎ (j ≢ c) = λ j. cases_eq j c in
    let new : Processors = with_kept rest.after c (k ∷ rest.after c) in
    let same : (j : ℕ) → j ≡ c → new j ≡ k ∷ rest.after j = λ j e. ap (λ (n : ℕ). new n) e ∙ with_own rest.after c (k ∷ rest.after c) ∙ ap (λ (n : ℕ). k ∷ rest.after n) (sym e) in
    let other : (j : ℕ) → j ≢ c → new j ≡ rest.after j = λ j ne. with_other rest.after c j (k ∷ rest.after c) ne in
    record {
      after = new;
      steps = append rest.steps (one (windows.refilled c k read));
      own = λ j below. elim (at j) [
        | inl e ↦ subst (λ (l : List Kept). Has l k) (sym (same j e)) (0, refl)
        | inr ne ↦ subst (λ (l : List Kept). Has l k) (sym (other j ne)) (rest.own j (omega (arith, below, ne)))
      ];
      more = λ j h there. elim (at j) [
        | inl e ↦ subst (λ (l : List Kept). Has l h) (sym (same j e)) (let g = rest.more j h there in (suc g.0, g.1))
        | inr ne ↦ subst (λ (l : List Kept). Has l h) (sym (other j ne)) (rest.more j h there)
      ];
      only = λ j h there. elim (at j) [
        | inl e ↦ first_or rest.after j h (rest.only j h) (subst (λ (l : List Kept). Has l h) (same j e) there)
        | inr ne ↦ rest.only j h (subst (λ (l : List Kept). Has l h) (other j ne) there)
      ];
      above = λ j up. other j (λ e. absurd (omega (arith, up, e))) ∙ rest.above j (omega (arith, up));
    }
  where
    first_or : (L : Processors) (j : ℕ) (h : Kept) → (Has (L j) h → (h ≡ k) ⊎ Has (K j) h) → Has (k ∷ L j) h → (h ≡ k) ⊎ Has (K j) h
    first_or L j h by (zero, there) = inl (sym (some_same k h there))
    first_or L j h by (suc n, there) = by (n, there)

-- ---- What the machine with processors keeps

-- a translation that is kept allows what a cached one allows
record Covers (kept : List Kept) (p page : ℕ) (t : Translation) : Type 0 where
  place : ℕ
  write : Bool
  there : slice_get kept place ≡ Some (translation (record { slot = spaces.at_page p page; frame = t.frame; write = write; dirty = write }))
  right : t.write ≡ true → write ≡ true

-- it keeps what covers all that a processor caches, and the tables that are cached are there
record Fits (s : Shadow) (kept : List Kept) (c : Processor) : Type 0 where
  covered : (place : ℕ) (e : PageEntry) → slice_get c.caches place ≡ Some (page_entry e) → Covers kept e.pid e.page e.translation
  linked : (place : ℕ) (e : TableEntry) → slice_get c.caches place ≡ Some (table_entry e) → IsLinked s c e
  home : (h : Home) → c.home ≡ Some h → root_frame s h.pid ≡ Some h.root

-- whether a processor has invalidated
abbrev is_done : Moment → ℕ → Bool
is_done (settled x done w) i = done i
is_done (under_way x done e r s w) i = done i

-- The tables are one more processor, which keeps all that they have. The others keep that too, and what each caches.
record Follows (count : ℕ) (m : Moment) (b : LongMode) (K : Processors) : Type 0 where
  stands : IsTabled b.shadow
  tables : (p page : ℕ) (t : Translation) → map.get b.shadow.translations (at_page p page) ≡ Some t → Has (K count) (translation (kept_at p page t))
  each : (i : ℕ) → i < count → (k : Kept) → Has (K count) k → Has (K i) k
  fits : (i : ℕ) → i < count → Fits b.shadow (K i) (b.processors i)
  absent : (i : ℕ) → count < i → K i ≡ []
  fresh : b.stale ≡ false → (is_done m count ≡ true) ⊎ (ended_in m ≡ end.Nothing)

covers_more : (kept more : List Kept) (p page : ℕ) (t : Translation) → ((k : Kept) → Has kept k → Has more k) → Covers kept p page t → Covers more p page t
covers_more kept more p page t up c =
    let h = up (translation (record { slot = spaces.at_page p page; frame = t.frame; write = c.write; dirty = c.write })) (c.place, c.there) in
    record { place = h.0; write = c.write; there = h.1; right = c.right }

fits_more : (s : Shadow) (kept more : List Kept) (c : Processor) → ((k : Kept) → Has kept k → Has more k) → Fits s kept c → Fits s more c
fits_more s kept more c up fits = record {
  covered = λ place e there. covers_more kept more e.pid e.page e.translation up (fits.covered place e there);
  linked = fits.linked;
  home = fits.home;
}

-- some of what the tables had is left
fits_left : (s u : Shadow) (freed : ℕ → Bool) (kept : List Kept) (c : Processor) → IsLeft s freed u → ((h : Home) → c.home ≡ Some h → freed h.pid ≡ false) → Fits s kept c → Fits u kept c
fits_left s u freed kept c left nobody fits = record {
  covered = fits.covered;
  linked = λ place e there.
      let l = fits.linked place e there in
      let spared : freed e.pid ≡ false = ap freed (sym l.own) ∙ nobody l.home l.runs in
      record { home = l.home; runs = l.runs; own = l.own; user = l.user; least = l.least; most = l.most; there = left.tables e.pid spared e.page e.depth e.frame l.user l.most l.there };
  home = λ h is. left.roots h.pid (nobody h is) ∙ fits.home h is;
}

fits_filled : (x : Ended) (w : View) (s u : Shadow) (p page : ℕ) (t : Translation) (kept : List Kept) (c : Processor) → IsFilled x w s p page t u → Fits s kept c → Fits u kept c
fits_filled x w s u p page t kept c entered fits = record {
  covered = fits.covered;
  linked = λ place e there.
      let l = fits.linked place e there in
      record { home = l.home; runs = l.runs; own = l.own; user = l.user; least = l.least; most = l.most; there = entered.tables e.pid e.page e.depth e.frame l.user l.most l.there };
  home = λ h is. entered.roots h.pid h.root (fits.home h is);
}

linked_still : (s : Shadow) (c d : Processor) (e : TableEntry) → d.home ≡ c.home → IsLinked s c e → IsLinked s d e
linked_still s c d e same l = record { home = l.home; runs = same ∙ l.runs; own = l.own; user = l.user; least = l.least; most = l.most; there = l.there }

fits_fewer : (s : Shadow) (kept : List Kept) (c : Processor) (left : List Cached) → AreAmong left c.caches → Fits s kept c → Fits s kept (record { home = c.home; caches = left })
fits_fewer s kept c left among fits = record {
  covered = λ place e there. (let n = among place (page_entry e) there in fits.covered n.0 e n.1);
  linked = λ place e there. (let n = among place (table_entry e) there in linked_still s c (record { home = c.home; caches = left }) e refl (fits.linked n.0 e n.1));
  home = fits.home;
}

covers_left : (x : Ended) (kept : List Kept) (p page : ℕ) (t : Translation) → is_ended x (spaces.at_page p page) ≡ false → Covers kept p page t → Covers (left_by x kept) p page t
covers_left x kept p page t spared c =
    let k : Kept = translation (record { slot = spaces.at_page p page; frame = t.frame; write = c.write; dirty = c.write }) in
    let h = left_has x kept c.place k c.there spared in
    record { place = h.0; write = c.write; there = h.1; right = c.right }

fits_invalidated : (s : Shadow) (x : Ended) (kept : List Kept) (c : Processor) (left : List Cached) → AreAmong left c.caches → CachesNone x left → Fits s kept c
    → Fits s (left_by x kept) (record { home = c.home; caches = left })
fits_invalidated s x kept c left among clear fits = record {
  covered = λ place e there. (let n = among place (page_entry e) there in covers_left x kept e.pid e.page e.translation (clear place e there) (fits.covered n.0 e n.1));
  linked = λ place e there. (let n = among place (table_entry e) there in linked_still s c (record { home = c.home; caches = left }) e refl (fits.linked n.0 e n.1));
  home = fits.home;
}

-- a processor with another root
fits_switched : (s : Shadow) (kept : List Kept) (home : Option Home) → HasRoot s home → Fits s kept (record { home = home; caches = [] })
fits_switched s kept home root = record {
  covered = λ place e there. absurd (none_there place (page_entry e) there);
  linked = λ place e there. absurd (none_there place (table_entry e) there);
  home = by home root;
}
  where
    by : (home : Option Home) → HasRoot s home → (h : Home) → home ≡ Some h → root_frame s h.pid ≡ Some h.root
    by None root h is = cc
    by (Some g) root h is = (let same = some_same g h is in subst (λ (h : Home). root_frame s h.pid ≡ Some h.root) same root)

-- each processor fits, where one of them is another
fits_with : (count : ℕ) (s : Shadow) (b : LongMode) (K : Processors) (i : ℕ) (c : Processor) → ((j : ℕ) → j < count → j ≢ i → Fits s (K j) (b.processors j)) → Fits s (K i) c
    → (j : ℕ) → j < count → Fits s (K j) ((with_processor b i c).processors j)
fits_with count s b K i c each own j below = elim (cases_eq j i) [
  | inl same ↦ subst (λ (t : Bool). Fits s (K j) (if t then c else b.processors j)) (sym (eq-eqb j i same)) (subst (λ (n : ℕ). Fits s (K n) c) (sym same) own)
  | inr other ↦ subst (λ (t : Bool). Fits s (K j) (if t then c else b.processors j)) (sym (ne_eqb j i other)) (each j below other)
]

-- ---- What a processor reaches

page_of_start : (at : ℕ) → page_number (start_number at) ≡ at
page_of_start at = grind arith

-- a walk from the root that CR3 has
root_translates : (s : Shadow) (p root at physical : ℕ) (access : Access) → IsTabled s → root_frame s p ≡ Some root → at < 2 ^ 35
    → long_walk s.bytes s.pool (frame_address s.pool root) (start_number at) access ≡ Ok physical → Translated s p at physical access
root_translates s p root at physical access stands rooted lower walk =
    let small : start_number at < 2 ^ 47 = omega (arith, lower) in
    let ends = sym (stands.walks p root (start_number at) access rooted small) ∙ walk in
    walk_translates s p at physical access (subst (λ (n : ℕ). shadow_end s.block (map.get s.translations (at_page p n)) (start_number at) access ≡ Ok physical) (page_of_start at) ends)

same_frame : (block a b : ℕ) → block + 4096 * a ≡ block + 4096 * b → b ≡ a
same_frame block a b e = omega (arith, e)

-- what a processor reaches, it keeps
record Kept1 (kept : List Kept) (p at frame : ℕ) (access : Access) : Type 0 where
  translation : Translation
  covers : Covers kept p at translation
  on_frame : translation.frame ≡ frame
  right : access ≡ Write → translation.write ≡ true

-- what the tables have, each processor keeps
kept_translated : (count : ℕ) (m : Moment) (b : LongMode) (K : Processors) (i p at frame : ℕ) (access : Access) → Follows count m b K → i < count
    → Translated b.shadow p at (b.shadow.block + 4096 * frame) access → Kept1 (K i) p at frame access
kept_translated count m b K i p at frame access follows below t =
    let h = follows.each i below (translation (kept_at p at t.translation)) (follows.tables p at t.translation t.there) in
    record {
      translation = t.translation;
      covers = record { place = h.0; write = t.translation.write; there = h.1; right = λ e. e };
      on_frame = same_frame b.shadow.block frame t.translation.frame t.ends;
      right = t.right;
    }

reached_kept : (count : ℕ) (m : Moment) (b : LongMode) (K : Processors) (i p at frame : ℕ) (access : Access) → Follows count m b K → i < count
    → Reaches b.shadow (b.processors i) p at frame access → Kept1 (K i) p at frame access
reached_kept count m b K i p at frame access follows below (walked h runs own lower walk) =
    let root : root_frame b.shadow p ≡ Some h.root = subst (λ (q : ℕ). root_frame b.shadow q ≡ Some h.root) own ((follows.fits i below).home h runs) in
    kept_translated count m b K i p at frame access follows below (root_translates b.shadow p h.root at (b.shadow.block + 4096 * frame) access follows.stands root lower walk)
reached_kept count m b K i p at frame access follows below (walked_on place e there own on walk) =
    let linked = (follows.fits i below).linked place e there in
    kept_translated count m b K i p at frame access follows below
    (subst (λ (q : ℕ). Translated b.shadow q at (b.shadow.block + 4096 * frame) access) own (table_translates b.shadow (b.processors i) e at (b.shadow.block + 4096 * frame) access follows.stands linked on walk))
reached_kept count m b K i p at frame access follows below (cached place t there same right) = record {
  translation = t;
  covers = (follows.fits i below).covered place (record { pid = p; page = at; translation = t }) there;
  on_frame = same;
  right = right;
}

lets_through : (kept : List Kept) (p at frame : ℕ) (access : Access) → Kept1 kept p at frame access → LetsThrough kept p at frame access
lets_through kept p at frame access k = record {
  place = k.covers.place;
  write = k.covers.write;
  dirty = k.covers.write;
  there = subst (λ (f : ℕ). slice_get kept k.covers.place ≡ Some (translation (record { slot = spaces.at_page p at; frame = f; write = k.covers.write; dirty = k.covers.write }))) k.on_frame k.covers.there;
  right = λ w. (let r = k.covers.right (k.right w) in (r, r));
}

-- of pages that weren't ended, also where it has not invalidated
spared : (x : Ended) (kept : List Kept) (p at frame : ℕ) (access : Access) → is_ended x (spaces.at_page p at) ≡ false → Kept1 kept p at frame access → Kept1 (left_by x kept) p at frame access
spared x kept p at frame access not k = record {
  translation = k.translation;
  covers = covers_left x kept p at k.translation not k.covers;
  on_frame = k.on_frame;
  right = k.right;
}

if_some : {X : Type 0} {P Q : X → Type 0} (o : Option X) → ((x : X) → P x → Q x) → IfSome o P → IfSome o Q
if_some None f p = tt
if_some (Some x) f p = f x p

if_both : {X : Type 0} {P Q R : X → Type 0} (o : Option X) → ((x : X) → P x → Q x → R x) → IfSome o P → IfSome o Q → IfSome o R
if_both None f p q = tt
if_both (Some x) f p q = f x p q

module _ (count : ℕ) (m : Moment) (b : LongMode) (K : Processors) (i : ℕ) (follows : Follows count m b K) (below : i < count) where
  -- each page that is touched
  touched : (p addr : ℕ) (size : Size) (frames : ℕ → ℕ) (access : Access) → EachTouched addr size (λ at. Reaches b.shadow (b.processors i) p at (frames at) access)
      → EachTouched addr size (λ at. LetsThrough (K i) p at (frames at) access)
  touched p addr size frames access reaches =
      let each : (at : ℕ) → Reaches b.shadow (b.processors i) p at (frames at) access → LetsThrough (K i) p at (frames at) access =
      λ at r. lets_through (K i) p at (frames at) access (reached_kept count m b K i p at (frames at) access follows below r) in
      (each (page_number addr) reaches.0, if_some (second_page addr size) each reaches.1)

  let_call : (p : ℕ) (frames : ℕ → ℕ) (c : Call) → ReachesCall b.shadow (b.processors i) p frames c → LetCall (K i) p frames c
  let_call p frames (call.Load addr size) reaches = touched p addr size frames Read reaches
  let_call p frames (call.Store addr size value) reaches = touched p addr size frames Write reaches
  let_call p frames _ reaches = absurd reaches

  touched_spared : (x : Ended) (p addr : ℕ) (size : Size) (frames : ℕ → ℕ) (access : Access) → EachTouched addr size (λ at. is_ended x (spaces.at_page p at) ≡ false)
      → EachTouched addr size (λ at. Reaches b.shadow (b.processors i) p at (frames at) access) → EachTouched addr size (λ at. LetsThrough (left_by x (K i)) p at (frames at) access)
  touched_spared x p addr size frames access not reaches =
      let each : (at : ℕ) → is_ended x (spaces.at_page p at) ≡ false → Reaches b.shadow (b.processors i) p at (frames at) access → LetsThrough (left_by x (K i)) p at (frames at) access =
      λ at n r. lets_through (left_by x (K i)) p at (frames at) access (spared x (K i) p at (frames at) access n (reached_kept count m b K i p at (frames at) access follows below r)) in
      (each (page_number addr) not.0 reaches.0, if_both (second_page addr size) each not.1 reaches.1)

  let_call_spared : (x : Ended) (p : ℕ) (frames : ℕ → ℕ) (c : Call) → MayUse x false p c → ReachesCall b.shadow (b.processors i) p frames c → LetCall (left_by x (K i)) p frames c
  let_call_spared x p frames (call.Load addr size) may reaches = touched_spared x p addr size frames Read may reaches
  let_call_spared x p frames (call.Store addr size value) may reaches = touched_spared x p addr size frames Write may reaches
  let_call_spared x p frames _ may reaches = absurd reaches

  let_call_usable : (x : Ended) (done : Bool) (p : ℕ) (frames : ℕ → ℕ) (c : Call) → MayUse x done p c → ReachesCall b.shadow (b.processors i) p frames c
      → LetCall (if done then K i else left_by x (K i)) p frames c
  let_call_usable x true p frames c may reaches = let_call p frames c reaches
  let_call_usable x false p frames c may reaches = let_call_spared x p frames c may reaches

-- ---- One move

record Simulated (count : ℕ) (m : Moment) (K : Processors) (es : List Event) (rs : List Reply) (n : Moment) (after : LongMode) : Type 0 where
  keeps : Processors
  steps : Steps m K es rs n keeps
  follows : Follows count n after keeps

-- the machine with processors has come here
record Reached (v : View) (m : Moment) (K : Processors) : Type 0 where
  events : List Event
  replies : List Reply
  steps : Steps (settled end.Nothing nobody v) none_kept events replies m K

-- nothing that is kept changes
same_kept : (count : ℕ) (m n : Moment) (b : LongMode) (K : Processors) → is_done n count ≡ is_done m count → ended_in n ≡ ended_in m → Follows count m b K → Follows count n b K
same_kept count m n b K done ended follows = record {
  stands = follows.stands;
  tables = follows.tables;
  each = follows.each;
  fits = follows.fits;
  absent = follows.absent;
  fresh = λ h. elim (follows.fresh h) [
    | inl d ↦ inl (done ∙ d)
    | inr e ↦ inr (ended ∙ e)
  ];
}

from_usable : (x : Ended) (done : Bool) (w : View) (kept : List Kept) → (done ≡ true) ⊎ (x ≡ end.Nothing) → AreRead w (if done then kept else left_by x kept) → AreRead w kept
from_usable x true w kept fresh read = read
from_usable x false w kept (inl d) read = absurd (let e : false ≡ true = d in cc)
from_usable x false w kept (inr nothing) read = subst (AreRead w) (ap (λ (y : Ended). left_by y kept) nothing ∙ nothing_left kept) read

-- walks read all that the tables keep, once they have forgotten
tables_read : (m : Moment) (K : Processors) (count : ℕ) → Stands m K → (is_done m count ≡ true) ⊎ (ended_in m ≡ end.Nothing) → AreRead (memory_in m) (K count)
tables_read (settled x done w) K count stands fresh = from_usable x (done count) w (K count) fresh (stands.1 count)
tables_read (under_way x done e r s w) K count stands fresh = from_usable x (done count) w (K count) fresh (stands.1 count)

-- what a processor begins to cache is covered
covers_reached : (count : ℕ) (m : Moment) (b : LongMode) (K : Processors) (i : ℕ) (e : PageEntry) → Follows count m b K → i < count
    → IsCacheable b.shadow (b.processors i) (page_entry e) → Covers (K i) e.pid e.page e.translation
covers_reached count m b K i e follows below reads = by e.translation.write refl
  where
    on_frame : (access : Access) → (k : Kept1 (K i) e.pid e.page e.translation.frame access) → (e.translation.write ≡ true → k.covers.write ≡ true) → Covers (K i) e.pid e.page e.translation
    on_frame access k right = record {
      place = k.covers.place;
      write = k.covers.write;
      there = subst (λ (f : ℕ). slice_get (K i) k.covers.place ≡ Some (translation (record { slot = spaces.at_page e.pid e.page; frame = f; write = k.covers.write; dirty = k.covers.write }))) k.on_frame k.covers.there;
      right = right;
    }

    by : (w : Bool) → e.translation.write ≡ w → Covers (K i) e.pid e.page e.translation
    by true is =
        let k = reached_kept count m b K i e.pid e.page e.translation.frame Write follows below (reads.1 is) in
        on_frame Write k (λ _. k.covers.right (k.right refl))
    by false is =
        let k = reached_kept count m b K i e.pid e.page e.translation.frame Read follows below reads.0 in
        on_frame Read k (λ w. absurd (let e : true ≡ false = sym w ∙ is in cc))

fits_one : (count : ℕ) (m : Moment) (b : LongMode) (K : Processors) (i : ℕ) (k : Cached) → Follows count m b K → i < count → IsCacheable b.shadow (b.processors i) k
    → Fits b.shadow (K i) (record { home = (b.processors i).home; caches = k ∷ (b.processors i).caches })
fits_one count m b K i k follows below reads = record {
  covered = covered_of k reads;
  linked = linked_of k reads;
  home = (follows.fits i below).home;
}
  where
    now : Cached → Processor
    now k = record { home = (b.processors i).home; caches = k ∷ (b.processors i).caches }

    covered_of : (k : Cached) → IsCacheable b.shadow (b.processors i) k → (place : ℕ) (e : PageEntry) → slice_get (k ∷ (b.processors i).caches) place ≡ Some (page_entry e)
        → Covers (K i) e.pid e.page e.translation
    covered_of (page_entry d) reads zero e there =
        let same : d ≡ e = cc in
        subst (λ (e : PageEntry). Covers (K i) e.pid e.page e.translation) same (covers_reached count m b K i d follows below reads)
    covered_of (table_entry d) reads zero e there = cc
    covered_of k reads (suc n) e there = (follows.fits i below).covered n e there

    linked_of : (k : Cached) → IsCacheable b.shadow (b.processors i) k → (place : ℕ) (e : TableEntry) → slice_get (k ∷ (b.processors i).caches) place ≡ Some (table_entry e)
        → IsLinked b.shadow (now k) e
    linked_of (table_entry d) reads zero e there =
        let same : d ≡ e = cc in
        subst (λ (e : TableEntry). IsLinked b.shadow (now (table_entry d)) e) same (linked_still b.shadow (b.processors i) (now (table_entry d)) d refl reads)
    linked_of (page_entry d) reads zero e there = cc
    linked_of k reads (suc n) e there = linked_still b.shadow (b.processors i) (now k) e refl ((follows.fits i below).linked n e there)

same_memory : (m : Moment) (i : ℕ) → memory_in (acknowledged m i) ≡ memory_in m
same_memory (settled x done w) i = refl
same_memory (under_way x done e r s w) i = refl

same_ended : (m : Moment) (i : ℕ) → ended_in (acknowledged m i) ≡ ended_in m
same_ended (settled x done w) i = refl
same_ended (under_way x done e r s w) i = refl

one_done : (m : Moment) (i : ℕ) → is_done (acknowledged m i) i ≡ true
one_done (settled x done w) i = ap (λ (t : Bool). if t then true else done i) (eq-eqb i i refl)
one_done (under_way x done e r s w) i = ap (λ (t : Bool). if t then true else done i) (eq-eqb i i refl)

still_done : (m : Moment) (i j : ℕ) → is_done m j ≡ true → is_done (acknowledged m i) j ≡ true
still_done (settled x done w) i j is = by (j == i)
  where
    by : (t : Bool) → (if t then true else done j) ≡ true
    by true = refl
    by false = is
still_done (under_way x done e r s w) i j is = by (j == i)
  where
    by : (t : Bool) → (if t then true else done j) ≡ true
    by true = refl
    by false = is

apart : (i j : ℕ) → i < j → i ≢ j
apart i j less same = absurd (omega (arith, less, same))

keeps_none : (x : Ended) (kept : List Kept) → kept ≡ [] → windows.KeepsNone x kept
keeps_none x kept is = subst (windows.KeepsNone x) (sym is) (λ n k there. absurd (none_there n k there))

module _ (start : View) (core : IsCore start) (make : ShootdownsMakeEvents) (count : ℕ) where
  -- what the moves before come to
  order : (m : Moment) (K : Processors) → (reached : Reached start m K) → AreInOrder start reached.events reached.replies m K
  order m K reached = make start m none_kept K reached.events reached.replies core (λ i. tt) reached.steps

  -- the tables forget
  forget : (m : Moment) (b : LongMode) (u : Shadow) (K : Processors) → IsLeft b.shadow (is_all_of (ended_in m)) u → HasForgotten (ended_in m) u → NobodyRuns count b (is_all_of (ended_in m))
      → Follows count m b K → Simulated count m K [] [] (acknowledged m count) (record b { shadow = u; stale = false })
  forget m b u K left forgotten nobody follows =
      let x = ended_in m in
      let L : Processors = with_kept K count (left_by x (K count)) in
      let own : L count ≡ left_by x (K count) = with_own K count (left_by x (K count)) in
      let other : (i : ℕ) → i ≢ count → L i ≡ K i = λ i ne. with_other K count i (left_by x (K count)) ne in
      record {
        keeps = L;
        steps = one (windows.invalidated count);
        follows = record {
          stands = left.stands;
          tables = λ p at t there.
              let h = follows.tables p at t (left.less p at t there) in
              subst (λ (l : List Kept). Has l (translation (kept_at p at t))) (sym own) (left_has x (K count) h.0 (translation (kept_at p at t)) h.1 (forgotten p at t there));
          each = λ i below k h.
              let g = subst (λ (l : List Kept). Has l k) own h in
              subst (λ (l : List Kept). Has l k) (sym (other i (apart i count below))) (follows.each i below k (left_was x (K count) g.0 k g.1));
          fits = λ i below.
              subst (λ (l : List Kept). Fits u l (b.processors i)) (sym (other i (apart i count below)))
              (fits_left b.shadow u (is_all_of x) (K i) (b.processors i) left (λ h is. nobody i h below is) (follows.fits i below));
          absent = λ i above. other i (λ e. apart count i above (sym e)) ∙ follows.absent i above;
          fresh = λ _. inl (one_done m count);
        };
      }

  -- they do, and get a fault's translation
  fill : (m : Moment) (b : LongMode) (u : Shadow) (K : Processors) (p at : ℕ) (t : Translation) → IsFilled (ended_in m) (memory_in m) b.shadow p at t u
      → Follows count m b K → Simulated count m K [] [] (acknowledged m count) (record b { shadow = u; stale = false })
  fill m b u K p at t filled follows =
      let x = ended_in m in
      let k : Kept = translation (kept_at p at t) in
      let L : Processors = with_kept K count (left_by x (K count)) in
      let own : L count ≡ left_by x (K count) = with_own K count (left_by x (K count)) in
      let other : (i : ℕ) → i ≢ count → L i ≡ K i = λ i ne. with_other K count i (left_by x (K count)) ne in
      let all = refill_all (acknowledged m count) L k (suc count) (subst (λ (w : View). IsRead w k) (sym (same_memory m count)) filled.given) in
      record {
        keeps = all.after;
        steps = append (one (windows.invalidated count)) all.steps;
        follows = record {
          stands = filled.stands;
          tables = λ q from was there. elim (filled.entered.others q from was there) [
            | inl e ↦ (let P : ℕ → ℕ → Translation → Type 0 = λ q from was. Has (all.after count) (translation (kept_at q from was)) in
                subst (λ (q : ℕ). P q from was) (sym e.0) (subst (λ (from : ℕ). P p from was) (sym e.1) (subst (λ (was : Translation). P p at was) (sym e.2) (all.own count (omega arith)))))
            | inr left ↦
                let g = left_get x b.shadow.translations q from was left in
                let h = follows.tables q from was g.0 in
                all.more count (translation (kept_at q from was)) (subst (λ (l : List Kept). Has l (translation (kept_at q from was))) (sym own) (left_has x (K count) h.0 (translation (kept_at q from was)) h.1 g.1))
          ];
          each = λ i below h there. elim (all.only count h there) [
            | inl e ↦ subst (λ (h : Kept). Has (all.after i) h) (sym e) (all.own i (omega (arith, below)))
            | inr was ↦
                let g = subst (λ (l : List Kept). Has l h) own was in
                all.more i h (subst (λ (l : List Kept). Has l h) (sym (other i (apart i count below))) (follows.each i below h (left_was x (K count) g.0 h g.1)))
          ];
          fits = λ i below.
              fits_more u (K i) (all.after i) (b.processors i) (λ h there. all.more i h (subst (λ (l : List Kept). Has l h) (sym (other i (apart i count below))) there))
              (fits_filled x (memory_in m) b.shadow u p at t (K i) (b.processors i) filled (follows.fits i below));
          absent = λ i above. all.above i (omega (arith, above)) ∙ other i (λ e. apart count i above (sym e)) ∙ follows.absent i above;
          fresh = λ _. inl (one_done m count);
        };
      }

  -- a processor invalidates
  invalidate : (m : Moment) (b : LongMode) (K : Processors) (i : ℕ) (left : List Cached) → Reached start m K → i < count → b.stale ≡ false → AreAmong left (b.processors i).caches
      → CachesNone (ended_in m) left → Follows count m b K → Simulated count m K [] [] (acknowledged m i) (with_caches b i left)
  invalidate m b K i left reached below calm among clear follows =
      let x = ended_in m in
      let c : Processor = record { home = (b.processors i).home; caches = left } in
      let L : Processors = with_kept K i (left_by x (K i)) in
      let read : AreRead (memory_in (acknowledged m i)) (K count) =
      subst (λ (w : View). AreRead w (K count)) (sym (same_memory m i)) (tables_read m K count (order m K reached).stands (follows.fresh calm)) in
      let again = refill (acknowledged m i) L i (K count) read in
      let other : (j : ℕ) → j ≢ i → again.after j ≡ K j = λ j ne. again.others j ne ∙ with_other K i j (left_by x (K i)) ne in
      let last : again.after count ≡ K count = other count (λ e. apart i count below (sym e)) in
      let own : (k : Kept) → Has (left_by x (K i)) k → Has (again.after i) k = λ k h. again.more k (subst (λ (l : List Kept). Has l k) (sym (with_own K i (left_by x (K i)))) h) in
      record {
        keeps = again.after;
        steps = append (one (windows.invalidated i)) again.steps;
        follows = record {
          stands = follows.stands;
          tables = λ p at t there. subst (λ (l : List Kept). Has l (translation (kept_at p at t))) (sym last) (follows.tables p at t there);
          each = λ j under k h.
              let g = subst (λ (l : List Kept). Has l k) last h in
              elim (cases_eq j i) [
                | inl e ↦ subst (λ (n : ℕ). Has (again.after n) k) (sym e) (again.own k g)
                | inr ne ↦ subst (λ (l : List Kept). Has l k) (sym (other j ne)) (follows.each j under k g)
              ];
          fits = fits_with count b.shadow b again.after i c
              (λ j under ne. subst (λ (l : List Kept). Fits b.shadow l (b.processors j)) (sym (other j ne)) (follows.fits j under))
              (fits_more b.shadow (left_by x (K i)) (again.after i) c own (fits_invalidated b.shadow x (K i) (b.processors i) left among clear (follows.fits i below)));
          absent = λ j above. other j (λ e. absurd (omega (arith, e, above, below))) ∙ follows.absent j above;
          fresh = λ h. elim (follows.fresh h) [
            | inl d ↦ inl (still_done m i count d)
            | inr e ↦ inr (same_ended m i ∙ e)
          ];
        };
      }

  -- one processor is another, and fits
  another : (m : Moment) (b : LongMode) (K : Processors) (i : ℕ) (c : Processor) → Fits b.shadow (K i) c → Follows count m b K → Simulated count m K [] [] m (with_processor b i c)
  another m b K i c own follows = record {
    keeps = K;
    steps = none;
    follows = record {
      stands = follows.stands;
      tables = follows.tables;
      each = follows.each;
      fits = fits_with count b.shadow b K i c (λ j under ne. follows.fits j under) own;
      absent = follows.absent;
      fresh = follows.fresh;
    };
  }

  simulate : {m n : Moment} {b after : LongMode} {es : List Event} {rs : List Reply} → Move count m b es rs n after → (K : Processors) → Reached start m K → Follows count m b K
      → Simulated count m K es rs n after
  simulate (moves.begun {v = v} {w = w} {done = done} {b = b} {e = e} {r = r} calm begins) K reached follows = record {
    keeps = K;
    steps = one (windows.begun begins);
    follows = record {
      stands = follows.stands;
      tables = follows.tables;
      each = follows.each;
      fits = follows.fits;
      absent = follows.absent;
      fresh = λ h. absurd (let e : true ≡ false = h in cc);
    };
  }
  simulate (moves.loaded {x = x} {done = done} {w = w} {s = s} {b = b} {e = e} {a = a} {r = r} {q = q} i below takes l) K reached follows = record {
    keeps = K;
    steps = alone (windows.loaded i takes (record { load = l.load; frames = l.frames; through = let_call count (under_way x done e r s w) b K i follows below a.pid l.frames a.call l.through; found = l.found }));
    follows = follows;
  }
  simulate (moves.stored {x = x} {done = done} {w = w} {s = s} {b = b} {e = e} {a = a} {r = r} {q = q} {bytes = bytes} i below takes l) K reached follows = record {
    keeps = K;
    steps = alone (windows.stored i takes (record { store = l.store; frames = l.frames; through = let_call count (under_way x done e r s w) b K i follows below a.pid l.frames a.call l.through; found = l.found; left = l.left }));
    follows = same_kept count (under_way x done e r s w) _ b K refl refl follows;
  }
  simulate (moves.ordered {x = x} {done = done} {w = w} {s = s} {b = b} {e = e} {r = r}) K reached follows = record {
    keeps = K;
    steps = alone windows.ordered;
    follows = same_kept count (under_way x done e r s w) _ b K refl refl follows;
  }
  simulate (moves.loaded_after {x = x} {done = done} {v = v} {b = b} {a = a} {q = q} i below may l) K reached follows = record {
    keeps = K;
    steps = alone (windows.usual (base.loaded i (record {
      load = l.load;
      frames = l.frames;
      through = let_call_usable count (settled x done v) b K i follows below x (done i) a.pid l.frames a.call may l.through;
      found = l.found;
    })));
    follows = follows;
  }
  simulate (moves.stored_after {x = x} {done = done} {v = v} {b = b} {a = a} {q = q} {bytes = bytes} i below may l) K reached follows = record {
    keeps = K;
    steps = alone (windows.usual (base.stored i (record {
      store = l.store;
      frames = l.frames;
      through = let_call_usable count (settled x done v) b K i follows below x (done i) a.pid l.frames a.call may l.through;
      found = l.found;
      left = ap (base.with_bytes v (next v.state a)) l.left;
    })));
    follows = same_kept count (settled x done v) _ b K refl refl follows;
  }
  simulate (moves.forgot {m = m} {b = b} {u = u} stale left forgotten nobody) K reached follows = forget m b u K left forgotten nobody follows
  simulate (moves.made_room {m = m} {b = b} {u = u} freed left nobody) K reached follows = record {
    keeps = K;
    steps = none;
    follows = record {
      stands = left.stands;
      tables = λ p at t there. follows.tables p at t (left.less p at t there);
      each = follows.each;
      fits = λ i below. fits_left b.shadow u freed (K i) (b.processors i) left (λ h is. nobody i h below is) (follows.fits i below);
      absent = follows.absent;
      fresh = follows.fresh;
    };
  }
  simulate (moves.filled {m = m} {b = b} {u = u} p at t stale filled) K reached follows = fill m b u K p at t filled follows
  simulate (moves.cached {m = m} {b = b} i k below reads) K reached follows = another m b K i _ (fits_one count m b K i k follows below reads) follows
  simulate (moves.dropped {m = m} {b = b} i left below among) K reached follows =
      another m b K i _ (fits_fewer b.shadow (K i) (b.processors i) left among (follows.fits i below)) follows
  simulate (moves.switched {m = m} {b = b} i home below root) K reached follows = another m b K i _ (fits_switched b.shadow (K i) home root) follows
  simulate (moves.invalidated {m = m} {b = b} i left below calm among clear) K reached follows = invalidate m b K i left reached below calm among clear follows
  simulate (moves.told {x = x} {done = done} {v = v} {b = b} all) K reached follows = record {
    keeps = K;
    steps = one (windows.told (λ i. each i (nat_lt count i) refl));
    follows = record {
      stands = follows.stands;
      tables = follows.tables;
      each = follows.each;
      fits = follows.fits;
      absent = follows.absent;
      fresh = λ _. inr refl;
    };
  }
    where
      each : (i : ℕ) (t : Bool) → nat_lt count i ≡ t → (done i ≡ true) ⊎ windows.KeepsNone x (K i)
      each i true is = inr (keeps_none x (K i) (follows.absent i (grind (arith, nat_tests))))
      each i false is = inl (all i (grind (arith, nat_tests)))

  all_moves : {m n : Moment} {b last : LongMode} {events : List Event} {replies : List Reply} → Moves count m b events replies n last → (K : Processors) → Reached start m K → Follows count m b K
      → Simulated count m K events replies n last
  all_moves moves.none K reached follows = record { keeps = K; steps = none; follows = follows }
  all_moves (moves.first {es = es} {rs = rs} now more) K reached follows =
      let here = simulate now K reached follows in
      let there = all_moves more here.keeps (record { events = reached.events ++ es; replies = reached.replies ++ rs; steps = append reached.steps here.steps }) here.follows in
      record { keeps = there.keeps; steps = append here.steps there.steps; follows = there.follows }

-- where walks end
walks_end : (s : Shadow) (kept : List Kept) (c : Processor) → IsTabled s → Fits s kept c → WalksEndInFrames s c
walks_end s kept c stands fits = record {
  root = λ h at physical access runs lower walk. (let t = root_translates s h.pid h.root at physical access stands (fits.home h runs) lower walk in (t.translation, t.there, t.ends));
  table = λ place e at physical access there on walk. (let t = table_translates s c e at physical access stands (fits.linked place e there) on walk in (t.translation, t.there, t.ends));
}

-- at first nothing is kept
opening : (count : ℕ) (v : View) (b : LongMode) → IsOpening b → Follows count (settled end.Nothing nobody v) b none_kept
opening count v b opens = record {
  stands = opens.stands;
  tables = λ p at t there. absurd (let none : ◌≡◌ {A = Option Translation} None (Some t) = ap (λ m. map.get m (at_page p at)) (sym opens.empty) ∙ there in cc);
  each = λ i below k h. h;
  fits = λ i below. subst (Fits b.shadow []) (sym (opens.idle i)) (fits_switched b.shadow [] None tt);
  absent = λ i above. refl;
  fresh = λ _. inr refl;
}

pub makes_steps_by : ShootdownsMakeEvents → LongModeMakesSteps
makes_steps_by make count v b last m events replies core opens moved =
    let begins : Reached v (settled end.Nothing nobody v) none_kept = record { events = []; replies = []; steps = none } in
    let end = all_moves v core make count moved none_kept begins (opening count v b opens) in
    let in_order : AreInOrder v events replies m end.keeps = make v m none_kept end.keeps events replies core (λ i. tt) end.steps in
    record {
      keeps = end.keeps;
      steps = end.steps;
      order = in_order;
      read = λ calm p at t there.
          let h = end.follows.tables p at t there in
          read_at (memory_in m) (end.keeps count) h.0 (translation (kept_at p at t)) (tables_read m end.keeps count in_order.stands (end.follows.fresh calm)) h.1;
      ends = λ i below. walks_end last.shadow (end.keeps i) (last.processors i) end.follows.stands (end.follows.fits i below);
    }
