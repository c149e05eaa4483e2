-- The number and the layer of each fault, and what a device's refusal is.
use Rattle.std.specs.Prelude.{ℕ}
use Rattle.flash.specs.declared.Refusal.{Refusal}
use Rattle.flash.specs.declared.Refusal.TheVariants as refusal
use Rattle.volume.specs.declared.fault.Fault as fault
use Rattle.volume.specs.declared.fault.Layer.{Layer}
use Rattle.volume.specs.declared.fault.Layer.TheVariants as layer
use Rattle.volume.specs.declared.fault.What.{What}
use Rattle.volume.specs.declared.fault.What.TheVariants.{Dark, Size, RootBlock, NoCommit, NoNewer, Tag, Superblock, TailBlock, TailTwice, TooFull, MoveBits, Hidden, EntryBlock, BlockTwice, FileWord, Entry, SuperblockElsewhere, NameOrder, Name, Depth, Directory, Orphan}

-- where the trouble lies
abbrev pub layer_of : What → Layer
layer_of Dark = layer.Device
layer_of Size = layer.Mount
layer_of RootBlock = layer.Mount
layer_of NoCommit = layer.Log
layer_of NoNewer = layer.Log
layer_of Tag = layer.Log
layer_of Superblock = layer.Superblock
layer_of TailBlock = layer.List
layer_of TailTwice = layer.List
layer_of TooFull = layer.List
layer_of MoveBits = layer.List
layer_of Hidden = layer.List
layer_of EntryBlock = layer.List
layer_of BlockTwice = layer.List
layer_of FileWord = layer.List
layer_of Entry = layer.List
layer_of SuperblockElsewhere = layer.List
layer_of NameOrder = layer.List
layer_of Name = layer.List
layer_of Depth = layer.List
layer_of Directory = layer.List
layer_of Orphan = layer.List

-- the number of a layer's faults
abbrev pub number_in : Layer → ℕ
number_in layer.Device = 12
number_in layer.Mount = 13
number_in layer.Superblock = 14
number_in layer.Log = 15
number_in layer.List = 16

-- the number of a fault
abbrev pub number_of : What → ℕ
number_of w = number_in (layer_of w)

-- what a device's refusal says of the card: the device is dark, or there is no such block on it
abbrev pub reason_of : Refusal → What
reason_of refusal.Dark = Dark
reason_of refusal.Outside = Size
reason_of refusal.Bad = Size
reason_of refusal.Used = Size

-- what a device's refusal is to a reader: a fault of the whole card
abbrev pub fault_of : Refusal → fault.Fault
fault_of r = record { what = reason_of r; block = 0; byte = 0 }
