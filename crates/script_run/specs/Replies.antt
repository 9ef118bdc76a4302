-- The text of replies, a line for each.
use Rattle.std.specs.Prelude.{ℕ, Bool, true, false, ◌/◌, ◌%◌, ◌^◌, List, [], ◌∷◌, ◌++◌, map, codes, decimal}
use Rattle.std.specs.Char.{digit_char}
use Rattle.std.specs.List.{flat_map}
use Rattle.process_table.specs.declared.causes.Cause.{Cause}
use Rattle.process_table.specs.declared.causes.Cause.TheVariants.{NoProcess, BadPage, NotMapped, Mapped, Quota, Rights, SelfOffer, NoTarget, OfferPending, TooManyOffers, NoOffer, TableFull, BadQuota, HasChildren, RootExit, TooSmall}
use Rattle.kernel_calls.specs.declared.calls.Reply.{Reply}
use Rattle.kernel_calls.specs.declared.calls.Reply.TheVariants as reply

-- eight hexadecimal digits in lower case, the highest first
unfoldable pub eight_digits : ℕ → List ℕ
eight_digits n = map (λ place. digit_char (n / 16 ^ place % 16)) (7 ∷ 6 ∷ 5 ∷ 4 ∷ 3 ∷ 2 ∷ 1 ∷ 0 ∷ [])

-- the name of a cause
abbrev pub name_of : Cause → List ℕ
name_of NoProcess = codes "NoProcess"
name_of BadPage = codes "BadPage"
name_of NotMapped = codes "NotMapped"
name_of Mapped = codes "Mapped"
name_of Quota = codes "Quota"
name_of Rights = codes "Rights"
name_of SelfOffer = codes "SelfOffer"
name_of NoTarget = codes "NoTarget"
name_of OfferPending = codes "OfferPending"
name_of TooManyOffers = codes "TooManyOffers"
name_of NoOffer = codes "NoOffer"
name_of TableFull = codes "TableFull"
name_of BadQuota = codes "BadQuota"
name_of HasChildren = codes "HasChildren"
name_of RootExit = codes "RootExit"
name_of TooSmall = codes "TooSmall"

-- 1 where it is so, and 0 where not
abbrev pub bit_of : Bool → List ℕ
bit_of true = codes "1"
bit_of false = codes "0"

-- the four flags, one space between
abbrev pub flags_of : Bool → Bool → Bool → Bool → List ℕ
flags_of write may accessed dirty = bit_of write ++ codes " " ++ bit_of may ++ codes " " ++ bit_of accessed ++ codes " " ++ bit_of dirty

-- a reply as a line, without its line feed
abbrev pub reply_text : Reply → List ℕ
reply_text reply.Done = codes "done"
reply_text (reply.Value value) = codes "value " ++ eight_digits value
reply_text (reply.Child child) = codes "child " ++ decimal child
reply_text (reply.Info write may accessed dirty holders) = codes "info " ++ flags_of write may accessed dirty ++ codes " " ++ decimal holders
reply_text (reply.Quota quota used given) = codes "quota " ++ decimal quota ++ codes " " ++ decimal used ++ codes " " ++ decimal given
reply_text (reply.Fault addr code) = codes "fault " ++ eight_digits addr ++ codes " " ++ decimal code
reply_text (reply.Refused cause) = codes "refused " ++ name_of cause

-- the text, and a line feed
abbrev pub reply_line : Reply → List ℕ
reply_line reply = reply_text reply ++ 10 ∷ []

-- the text of replies, a line for each
unfoldable pub text_of : List Reply → List ℕ
text_of replies = flat_map reply_line replies
