-- The inside of address spaces: the spaces and the image that they represent, and where a page is.
use Rattle.address_space.proofs.Prelude.{ℕ, Option, slot_number, frame_bytes, Found, Spaces, Image, image_from, View, directory_of, table_in, spaces_in, AreCountedSpaces, found_in, Inner as Inside}

-- the type's invariant
abbrev pub AreCountedInside : Inside → Type 0
AreCountedInside inner = AreCountedSpaces inner.directories inner.memory inner.frames inner.counts.items

abbrev pub spaces_at : Inside → Spaces
spaces_at inner = spaces_in inner.directories inner.memory

abbrev pub image_at : Inside → Image
image_at inner = image_from inner.directories inner.memory inner.frames

abbrev pub table_at : Inside → ℕ → ℕ → Option ℕ
table_at inner p page = table_in (directory_of inner.directories) (frame_bytes inner.memory) p (slot_number page)

abbrev pub found_at : Inside → ℕ → ℕ → Option Found
found_at inner p page = found_in (directory_of inner.directories) (frame_bytes inner.memory) p page

-- what is seen of them
abbrev pub view_of : Inside → View
view_of inner = record { spaces = spaces_in inner.directories inner.memory; directories = inner.directories; bytes = inner.memory; roles = inner.frames }
