-- Records, and the request: the record of the item list that opens a minitransaction.
use Rattle.std.specs.Prelude.{ℕ, ◌+◌, ◌*◌, Bool, cond, ◌&&◌, List, ◌∷◌, ◌++◌, length, drop, None, Option, ◌==◌, nat_le, slice_index}
use Rattle.model.specs.Items.{Item}
use Rattle.model.specs.ItemFormat.{be16, encode_list, decode_list}

-- the version byte of every record
abbrev pub version : ℕ
version = 1

-- where the content of a record begins, behind its length and version
abbrev pub content_at : ℕ
content_at = 3

-- a length that counts the bytes after it, the version, and the content
abbrev pub encode_record : List ℕ → List ℕ
encode_record content = be16 (1 + length content) ++ (version ∷ content)

-- whether the bytes are one whole record
abbrev pub is_record : List ℕ → Bool
is_record bs =
    nat_le content_at (length bs) && slice_index bs 0 * 256 + slice_index bs 1 + 2 == length bs && slice_index bs 2 == version

unfoldable pub encode_request : List Item → List ℕ
encode_request is = encode_record (encode_list is)

unfoldable pub decode_request : List ℕ → Option (List Item)
decode_request bs = cond (is_record bs) (decode_list (drop content_at bs)) None
