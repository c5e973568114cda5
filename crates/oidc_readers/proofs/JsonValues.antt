-- A value that is whole and whose texts are UTF-8.
use Rattle.std.specs.Prelude.{⊤}
use Rattle.std.specs.Str.{IsUtf8}
use Rattle.serde_json.specs.Data.{Data, null, boolean, number, string, array, object, Items, no_items, item, Members, no_members, member}
use Rattle.oidc_readers.specs.WrittenBack.{IsWholeNumber, AreInOrder, IsWhole, ItemsAreWhole, MembersAreWhole, HasTexts, ItemsHaveTexts, MembersHaveTexts}

abbrev mutual
  pub IsJsonValue : Data → Type 0
  IsJsonValue null = ⊤
  IsJsonValue (boolean b) = ⊤
  IsJsonValue (number n) = IsWholeNumber n
  IsJsonValue (string text) = IsUtf8 text
  IsJsonValue (array items) = ItemsAreJson items
  IsJsonValue (object members) = AreInOrder members × MembersAreJson members

  pub ItemsAreJson : Items → Type 0
  ItemsAreJson no_items = ⊤
  ItemsAreJson (item value rest) = IsJsonValue value × ItemsAreJson rest

  pub MembersAreJson : Members → Type 0
  MembersAreJson no_members = ⊤
  MembersAreJson (member name value rest) = IsUtf8 name × IsJsonValue value × MembersAreJson rest

mutual
  pub json_value : (d : Data) → IsWhole d → HasTexts d → IsJsonValue d
  json_value null w t = tt
  json_value (boolean b) w t = tt
  json_value (number n) w t = w
  json_value (string s) w t = t
  json_value (array ds) w t = json_items ds w t
  json_value (object ms) w t = (w.0, json_members ms w.1 t)

  json_items : (ds : Items) → ItemsAreWhole ds → ItemsHaveTexts ds → ItemsAreJson ds
  json_items no_items w t = tt
  json_items (item d ds) w t = (json_value d w.0 t.0, json_items ds w.1 t.1)

  json_members : (ms : Members) → MembersAreWhole ms → MembersHaveTexts ms → MembersAreJson ms
  json_members no_members w t = tt
  json_members (member k d ms) w t = (t.0, json_value d w.0 t.1, json_members ms w.1 t.2)
