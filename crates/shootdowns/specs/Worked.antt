-- Worked windows. A page is unmapped, and a processor loads and stores by what it kept of it. A page that is clean is
-- protected, and processors load by their walk and store by what they kept of it before dirty was set. A lazy page is
-- accepted, and a processor loads from it by what it kept.
use Rattle.std.specs.Prelude.{◌≡◌, ◌≢◌, ℕ, true, false, List, [], ◌∷◌}
use Rattle.page_words.specs.declared.addresses.Size.TheVariants.{One}
use Rattle.process_table.specs.State.{open_with}
use Rattle.process_table.specs.View.{View}
use Rattle.kernel_calls.specs.Machine.{next}
use Rattle.kernel_calls.specs.Processors.{AllAreRead, Processors, IsMarked, IsLoaded, IsWalked}
use Rattle.kernel_calls.specs.Translations.{Kept, ended_by, is_invalidated}
use Rattle.kernel_calls.specs.declared.calls.Call.{Call}
use Rattle.kernel_calls.specs.declared.calls.Call.TheVariants as call
use Rattle.kernel_calls.specs.declared.calls.Event.{Event}
use Rattle.kernel_calls.specs.declared.calls.Reply.TheVariants as reply
use Rattle.kernel_calls.specs.declared.translations.Ended.TheVariants as end
use Rattle.shootdowns.specs.Shadows.{LeavesZeros, Uses}
use Rattle.shootdowns.specs.Windows.{Begins, IsStale, IsStaleClean, Steps, nobody, settled, under_way}

-- a call of process 0
abbrev pub by_root : Call → Event
by_root c = record { cpu = 0; pid = 0; call = c }

-- it stores 7 to the first byte of its first page
abbrev pub first_store : Event
first_store = by_root (call.Store 0x40000000 One 7)

-- and another 7 to that of its second page, so that their table stays when the first is unmapped
abbrev pub second_store : Event
second_store = by_root (call.Store 0x40001000 One 7)

-- it unmaps the first
abbrev pub unmap_it : Event
unmap_it = by_root (call.Unmap 0x40000)

-- it loads that byte, and stores 8 there
abbrev pub load_it : Event
load_it = by_root (call.Load 0x40000000 One)

abbrev pub store_it : Event
store_it = by_root (call.Store 0x40000000 One 8)

-- nothing is kept
abbrev pub none_kept : Processors
none_kept i = []

-- The core that has the stored pages carries out the Unmap. Then accessed of the directory word that leads there is
-- cleared, and set again. Processor 0 kept the page's translation: it loads by it, and it stores by it. Then it
-- invalidates, and the window ends. The order of these has the Load and the Store before the Unmap, and the Load has what
-- was stored first.
pub record WorkedWindow (x : View) : Type 0 where
  pub before : View
  pub opened : before.state ≡ next (next (open_with 16) first_store) second_store
  pub keeps : Processors
  pub read : AllAreRead before keeps
  pub left : View
  pub begins : Begins before unmap_it reply.Done left
  pub cleared : View
  pub clears : IsMarked left cleared
  pub marked : IsMarked cleared x
  pub changed : x.bytes ≢ cleared.bytes
  pub loaded : IsLoaded (keeps 0) x load_it (reply.Value 7)
  pub bytes : List ℕ
  pub stale : IsStale (keeps 0) x store_it reply.Done bytes
  pub last : Processors
  -- the Unmap is carried out once they keep this, and both accesses are made before it is replied to
  pub opens : Steps (settled end.Nothing nobody before) none_kept [] []
      (under_way (ended_by before unmap_it) nobody unmap_it reply.Done before.state left) keeps
  pub window : Steps (under_way (ended_by before unmap_it) nobody unmap_it reply.Done before.state left) keeps
      (load_it ∷ store_it ∷ unmap_it ∷ []) (reply.Value 7 ∷ reply.Done ∷ reply.Done ∷ [])
      (settled end.Nothing nobody (record x { state = next (next before.state store_it) unmap_it; bytes = bytes })) last

-- it forks
abbrev pub fork_it : Event
fork_it = by_root (call.Fork 8)

-- a call of its child, process 1
abbrev pub by_child : Call → Event
by_child c = record { cpu = 0; pid = 1; call = c }

-- the child loads the byte from its copy of the page, stores there, and protects the copy to read-only
abbrev pub load_copy : Event
load_copy = by_child (call.Load 0x40000000 One)

abbrev pub store_copy : Event
store_copy = by_child (call.Store 0x40000000 One 8)

abbrev pub protect_it : Event
protect_it = by_child (call.Protect 0x40000 false)

-- it asks for its quota
abbrev pub ask_it : Event
ask_it = by_child call.Quota

-- The child's copy is clean, and accessed since it was loaded from. Processor 0 kept its translation without dirty, and
-- that of the root's page. The core carries out a Protect of the copy. A processor loads from it by its walk, and
-- processor 0 stores by what it kept, and sets dirty. It invalidates, and the window ends. In the next one, of a call that
-- changes nothing, it forgets what it still kept.
pub record WorkedProtect (w : View) : Type 0 where
  pub before : View
  pub opened : before.state ≡ next (next (next (open_with 16) first_store) fork_it) load_copy
  pub keeps : Processors
  pub read : AllAreRead before keeps
  pub begins : Begins before protect_it reply.Done w
  pub walked_to : View
  pub walked : IsWalked w load_copy (reply.Value 7) walked_to
  pub bytes : List ℕ
  pub clean : IsStaleClean (keeps 0) walked_to store_copy reply.Done bytes
  pub after : View
  pub left : Processors
  pub some_left : left 0 ≢ []
  pub last : Processors
  pub none_left : last 0 ≡ []
  -- the Protect is carried out once they keep this, and both accesses are made before it is replied to
  pub opens : Steps (settled end.Nothing nobody before) none_kept [] []
      (under_way (ended_by before protect_it) nobody protect_it reply.Done before.state w) keeps
  pub window : Steps (under_way (ended_by before protect_it) nobody protect_it reply.Done before.state w) keeps
      (load_copy ∷ store_copy ∷ protect_it ∷ []) (reply.Value 7 ∷ reply.Done ∷ reply.Done ∷ [])
      (settled end.Nothing nobody after) left
  -- so is the next call, and what is left is forgotten before it is replied to
  pub asks : Steps (settled end.Nothing nobody after) left [] []
      (under_way (ended_by after ask_it) nobody ask_it (reply.Quota 8 3 0) after.state after) left
  pub forgets : Steps (under_way (ended_by after ask_it) nobody ask_it (reply.Quota 8 3 0) after.state after) left
      (ask_it ∷ []) (reply.Quota 8 3 0 ∷ []) (settled end.Nothing nobody after) last

-- it maps its first page, spawns a child, and offers the page to it
abbrev pub map_it : Event
map_it = by_root (call.Map 0x40000 true)

abbrev pub spawn_it : Event
spawn_it = by_root (call.Spawn 8)

abbrev pub offer_it : Event
offer_it = by_root (call.Offer 0x40000 1 true)

-- the child accepts it
abbrev pub accept_it : Event
accept_it = by_child (call.Accept 0 0x40000 0x50000)

-- The page is lazy, and processor 0 kept the translation by which its owner read zeros. The core carries out the Accept,
-- which gives the page a frame and ends that translation. Before it is replied to, processor 0 loads by what it kept: the
-- zero that is there after the Accept too.
pub record WorkedZeros (w : View) : Type 0 where
  pub before : View
  pub opened : before.state ≡ next (next (next (next (open_with 16) map_it) load_it) spawn_it) offer_it
  pub kept : Kept
  pub keeps : Processors
  pub one : keeps 0 ≡ kept ∷ []
  pub read : AllAreRead before keeps
  pub begins : Begins before accept_it reply.Done w
  pub zeros : LeavesZeros before 1 accept_it.call
  pub stale : is_invalidated (ended_by before accept_it) kept ≡ true
  pub uses : Uses keeps w (load_it ∷ []) (reply.Value 0 ∷ []) w
