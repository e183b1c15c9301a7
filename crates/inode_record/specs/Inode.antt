-- Inodes. Apple File System Reference, "File-System Objects", j_inode_val_t; document 01, "Records": "An inode value has at least 82 bytes";
-- the order of reading is that of fs.rs, `Inode::parse`.
use Rattle.std.specs.Prelude.{ℕ, ◌/◌, ◌%◌, ◌^◌, List, ℤ, pos, ◌-ℤ◌}
use Rattle.error.specs.Answer.{Answer, Ok, ◌>>=◌, if_le}
use Rattle.byte_fields.specs.Number.{number_at}
use Rattle.obj.specs.declared.reader.Reader.{Reader}
use Rattle.node.specs.Place.{value_of}
use Rattle.node.specs.declared.place.Place.{Place}
use Rattle.names.specs.Name.{name_bytes}
use Rattle.names.specs.declared.Name.{Name}
use Rattle.inode_record.specs.Fields.{fields_in}
use Rattle.inode_record.specs.declared.inode.Ids.{Ids}
use Rattle.inode_record.specs.declared.inode.Times.{Times}
use Rattle.inode_record.specs.declared.inode.Owner.{Owner}
use Rattle.inode_record.specs.declared.inode.Inode.{Inode}

-- parent_id, private_id
unfoldable pub ids_in : List ℕ → Answer Ids
ids_in v =
    number_at 8 v 0 >>= λ parent.
    number_at 8 v 8 >>= λ own.
    Ok (record { parent = parent; private_id = own })

-- create_time, mod_time, change_time, access_time
unfoldable pub times_in : List ℕ → Answer Times
times_in v =
    number_at 8 v 16 >>= λ create.
    number_at 8 v 24 >>= λ modify.
    number_at 8 v 32 >>= λ change.
    number_at 8 v 40 >>= λ access.
    Ok (record { create = create; modify = modify; change = change; access = access })

-- "LINKS is signed 32-bit": the number whose bit pattern it is
unfoldable pub signed_of : ℕ → ℤ
signed_of x = if_le (2 ^ 31) x (pos x -ℤ pos (2 ^ 32)) (pos x)

-- internal_flags, nchildren or nlink, bsd_flags, owner, group, mode
unfoldable pub owner_in : List ℕ → Answer Owner
owner_in v =
    number_at 8 v 48 >>= λ flags.
    number_at 4 v 56 >>= λ links.
    number_at 4 v 68 >>= λ bsd.
    number_at 4 v 72 >>= λ owner.
    number_at 4 v 76 >>= λ group.
    number_at 2 v 80 >>= λ mode.
    Ok (record { internal_flags = flags; links = signed_of links; bsd_flags = bsd; owner = owner; group = group; mode = mode })

unfoldable pub inode_in : Place → ℕ → List ℕ → Answer Inode
inode_in p id v =
    ids_in v >>= λ ids.
    times_in v >>= λ times.
    owner_in v >>= λ owner.
    fields_in v >>= λ fields.
    Ok (record { place = p; id = id; ids = ids; times = times; owner = owner; fields = fields })

unfoldable pub inode_at : Reader → List ℕ → Place → ℕ → Answer Inode
inode_at r b p id = inode_in p id (value_of r b p)

-- "a name comes back as the part of the image that holds it"
unfoldable pub inode_name : Reader → List ℕ → Place → Name → List ℕ
inode_name r b p n = name_bytes (value_of r b p) n

-- UF_COMPRESSED, bit 0x20 of the BSD flags: 1 where a file is compressed (fs.rs, `is_compressed`)
abbrev pub compressed_bit : ℕ → ℕ
compressed_bit flags = flags / 32 % 2

abbrev pub compressed : Inode → ℕ
compressed i = compressed_bit i.owner.bsd_flags
