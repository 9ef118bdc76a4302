-- Accesses of any number of bytes are moves next to one another.
use Rattle.std.proofs.Common.{◌≡◌, ℕ, zero, suc, ◌+◌, ◌<◌, Bool, true, false, List, [], ◌∷◌, ◌++◌, length, Option, None, refl, sym, ap, subst, arith}
use Rattle.std.specs.Prelude.{IfSome, slice_index, slice_set}
use Rattle.std.proofs.lemmas.Bool.Decides.{nat_tests}
use Rattle.std.proofs.lemmas.List.{append_assoc}
use Rattle.page_words.specs.Addresses.{page_number, second_page, EachTouched}
use Rattle.page_words.specs.declared.addresses.Size.TheVariants.{One}
use Rattle.table_walk.specs.declared.Access.{Access}
use Rattle.table_walk.specs.declared.Access.TheVariants.{Read, Write}
use Rattle.address_space.specs.Kept.{kept_place, written_at}
use Rattle.address_space.specs.Spaces as spaces
use Rattle.process_table.specs.View.{View}
use Rattle.process_table.specs.State.{State}
use Rattle.kernel_acts.specs.Transfers.{load_byte, store_byte, loads, stores}
use Rattle.kernel_calls.specs.Machine.{next, end_of}
use Rattle.kernel_calls.specs.Translations.{is_ended}
use Rattle.kernel_calls.specs.Kept.{reply_kept}
use Rattle.kernel_calls.specs.declared.calls.Event.{Event}
use Rattle.kernel_calls.specs.declared.calls.Reply.{Reply}
use Rattle.kernel_calls.specs.declared.calls.Reply.TheVariants as reply
use Rattle.kernel_calls.specs.declared.translations.Ended.{Ended}
use Rattle.shootdowns.specs.Windows.{Acknowledged, settled, under_way, only_takes}
use Rattle.long_mode_machine.specs.LongMode.{LongMode, Reaches, MayUse}
use Rattle.long_mode_machine.specs.Moves as moves
use Rattle.long_mode_machine.specs.Moves.{Moves, IsLoaded, IsStored}
use Rattle.long_mode_machine.specs.Wide.{ReachesBytes, MayUseBytes, bytes_there, values_of, dones, AreBytes, WideLoadsAreMoves, WideStoresAreMoves, MovesFollow, after_stores}

pub moves_follow : MovesFollow
moves_follow count m n o b c d es fs rs qs moves.none more = more
moves_follow count m n o b c d _ fs _ qs (moves.first {n = x} {between = y} {es = es} {events = events} {rs = rs} {replies = replies} now rest) more =
    subst (λ (l : List Event). Moves count m b l ((rs ++ replies) ++ qs) o d) (sym (append_assoc es events fs))
    (subst (λ (l : List Reply). Moves count m b (es ++ (events ++ fs)) l o d) (sym (append_assoc rs replies qs))
    (moves.first now (moves_follow count x n o y c d events fs replies qs rest more)))

-- a byte lies in one page
one_page : (address : ℕ) → second_page address One ≡ None
one_page address = grind (arith, nat_tests)

of_one : (address : ℕ) (P : ℕ → Type 0) → P (page_number address) → EachTouched address One P
of_one address P h = (h, subst (λ (o : Option ℕ). IfSome o P) (sym (one_page address)) tt)

-- the rest of the bytes
rest_reached : (b : LongMode) (i p address n : ℕ) (frames : ℕ → ℕ) (access : Access) → ReachesBytes b i p address (suc n) frames access → ReachesBytes b i p (address + 1) n frames access
rest_reached b i p address n frames access each k below =
    subst (λ (a : ℕ). Reaches b.shadow (b.processors i) p (page_number a) (frames (page_number a)) access) (omega arith) (each (suc k) (omega (arith, below)))

first_reached : (b : LongMode) (i p address n : ℕ) (frames : ℕ → ℕ) (access : Access) → ReachesBytes b i p address (suc n) frames access
    → Reaches b.shadow (b.processors i) p (page_number address) (frames (page_number address)) access
first_reached b i p address n frames access each =
    subst (λ (a : ℕ). Reaches b.shadow (b.processors i) p (page_number a) (frames (page_number a)) access) (omega arith) (each 0 (omega arith))

rest_usable : (x : Ended) (done : Bool) (p address n : ℕ) → MayUseBytes x done p address (suc n) → MayUseBytes x done p (address + 1) n
rest_usable x true p address n may = tt
rest_usable x false p address n may = λ k below. subst (λ (a : ℕ). is_ended x (spaces.at_page p (page_number a)) ≡ false) (omega arith) (may (suc k) (omega (arith, below)))

load_usable : (x : Ended) (done : Bool) (p address n : ℕ) → MayUseBytes x done p address (suc n) → MayUse x done p (load_byte p address).call
load_usable x true p address n may = tt
load_usable x false p address n may =
    of_one address (λ at. is_ended x (spaces.at_page p at) ≡ false) (subst (λ (a : ℕ). is_ended x (spaces.at_page p (page_number a)) ≡ false) (omega arith) (may 0 (omega arith)))

store_usable : (x : Ended) (done : Bool) (p address n byte : ℕ) → MayUseBytes x done p address (suc n) → MayUse x done p (store_byte p address byte).call
store_usable x true p address n byte may = tt
store_usable x false p address n byte may =
    of_one address (λ at. is_ended x (spaces.at_page p at) ≡ false) (subst (λ (a : ℕ). is_ended x (spaces.at_page p (page_number a)) ≡ false) (omega arith) (may 0 (omega arith)))

-- ---- Loads

one_value : (frames : ℕ → ℕ) (bytes : List ℕ) (p address : ℕ) → reply.Value (slice_index bytes (kept_place frames address)) ≡ reply_kept frames bytes (load_byte p address).call
one_value frames bytes p address = ap reply.Value (omega arith)

is_loaded : (b : LongMode) (i : ℕ) (w : View) (p address n : ℕ) (frames : ℕ → ℕ) → ReachesBytes b i p address (suc n) frames Read
    → IsLoaded b i w (load_byte p address) (reply.Value (slice_index w.bytes (kept_place frames address)))
is_loaded b i w p address n frames each = record {
  load = tt;
  frames = frames;
  through = of_one address (λ at. Reaches b.shadow (b.processors i) p at (frames at) Read) (first_reached b i p address n frames Read each);
  found = one_value frames w.bytes p address;
}

before : (count i : ℕ) (b : LongMode) (p address n : ℕ) (frames : ℕ → ℕ) → i < count → ReachesBytes b i p address n frames Read
    → (x : Ended) (done : Acknowledged) (e : Event) (r : Reply) (s : State) (w : View) → only_takes e.call ≡ true
    → Moves count (under_way x done e r s w) b (loads p address n) (values_of (bytes_there frames w.bytes address n)) (under_way x done e r s w) b
before count i b p address zero frames below each x done e r s w takes = moves.none
before count i b p address (suc n) frames below each x done e r s w takes =
    moves.first (moves.loaded i below takes (is_loaded b i w p address n frames each))
    (before count i b p (address + 1) n frames below (rest_reached b i p address n frames Read each) x done e r s w takes)

after : (count i : ℕ) (b : LongMode) (p address n : ℕ) (frames : ℕ → ℕ) → i < count → ReachesBytes b i p address n frames Read
    → (x : Ended) (done : Acknowledged) (v : View) → MayUseBytes x (done i) p address n
    → Moves count (settled x done v) b (loads p address n) (values_of (bytes_there frames v.bytes address n)) (settled x done v) b
after count i b p address zero frames below each x done v may = moves.none
after count i b p address (suc n) frames below each x done v may =
    moves.first (moves.loaded_after i below (load_usable x (done i) p address n may) (is_loaded b i v p address n frames each))
    (after count i b p (address + 1) n frames below (rest_reached b i p address n frames Read each) x done v (rest_usable x (done i) p address n may))

pub wide_loads_are_moves : WideLoadsAreMoves
wide_loads_are_moves count i b p address n frames below each = (before count i b p address n frames below each, after count i b p address n frames below each)

-- ---- Stores

is_stored : (b : LongMode) (i : ℕ) (w : View) (p address byte n : ℕ) (frames : ℕ → ℕ) → byte < 256 → ReachesBytes b i p address (suc n) frames Write
    → IsStored b i w (store_byte p address byte) reply.Done (slice_set w.bytes (kept_place frames address) byte)
is_stored b i w p address byte n frames small each = record {
  store = tt;
  frames = frames;
  through = of_one address (λ at. Reaches b.shadow (b.processors i) p at (frames at) Write) (first_reached b i p address n frames Write each);
  found = refl;
  left = ap (slice_set w.bytes (kept_place frames address)) (omega (arith, small));
}

stores_before : (count i : ℕ) (b : LongMode) (p address : ℕ) (bytes : List ℕ) (frames : ℕ → ℕ) → i < count → AreBytes bytes → ReachesBytes b i p address (length bytes) frames Write
    → (x : Ended) (done : Acknowledged) (e : Event) (r : Reply) (s : State) (w : View) → only_takes e.call ≡ true → w.state ≡ next s e
    → Moves count (under_way x done e r s w) b (stores p address bytes) (dones bytes)
    (under_way x done e r (end_of s (stores p address bytes)) (record w { bytes = written_at frames w.bytes address bytes; state = next (end_of s (stores p address bytes)) e })) b
stores_before count i b p address [] frames below small each x done e r s w takes state =
    subst (λ (t : State). Moves count (under_way x done e r s w) b [] [] (under_way x done e r s (record w { state = t })) b) state moves.none
stores_before count i b p address (byte ∷ bytes) frames below small each x done e r s w takes state =
    let a = store_byte p address byte in
    let now = slice_set w.bytes (kept_place frames address) byte in
    moves.first (moves.stored i below takes (is_stored b i w p address byte (length bytes) frames small.0 each))
    (stores_before count i b p (address + 1) bytes frames below small.1 (rest_reached b i p address (length bytes) frames Write each) x done e r (next s a)
    (record w { bytes = now; state = next (next s a) e }) takes refl)

stores_after : (count i : ℕ) (b : LongMode) (p address : ℕ) (bytes : List ℕ) (frames : ℕ → ℕ) → i < count → AreBytes bytes → ReachesBytes b i p address (length bytes) frames Write
    → (x : Ended) (done : Acknowledged) (v : View) → MayUseBytes x (done i) p address (length bytes)
    → Moves count (settled x done v) b (stores p address bytes) (dones bytes) (settled x done (after_stores v p frames address bytes)) b
stores_after count i b p address [] frames below small each x done v may = moves.none
stores_after count i b p address (byte ∷ bytes) frames below small each x done v may =
    let a = store_byte p address byte in
    let now = slice_set v.bytes (kept_place frames address) byte in
    moves.first (moves.stored_after i below (store_usable x (done i) p address (length bytes) byte may) (is_stored b i v p address byte (length bytes) frames small.0 each))
    (stores_after count i b p (address + 1) bytes frames below small.1 (rest_reached b i p address (length bytes) frames Write each) x done
    (record v { bytes = now; state = next v.state a }) (rest_usable x (done i) p address (length bytes) may))

pub wide_stores_are_moves : WideStoresAreMoves
wide_stores_are_moves count i b p address bytes frames below small each =
    (stores_before count i b p address bytes frames below small each, stores_after count i b p address bytes frames below small each)
